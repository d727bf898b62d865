-- An answer with its cause is the only one: a text is one script at most, or has one first fault, and never both.
use Rattle.std.proofs.Common.{◌≡◌, List, [], ◌∷◌, map, ℕ, Some, None, Result, Ok, Err, IfOk, IfErr, ◌⊎◌, inl, inr, refl, sym, subst, ap, ◌∙◌}
use Rattle.toml.specs.Data.{Members, Data, table}
use Rattle.mpb_spec.specs.declared.config.DevWord.{DevWord}
use Rattle.mpb_script.specs.declared.script.Script.{Script}
use Rattle.mpb_script.specs.declared.script.CpuScript.{CpuScript}
use Rattle.mpb_script.specs.declared.script.ScriptFault.{ScriptFault}
use Rattle.mpb_script.specs.declared.script.ScriptFault.TheVariants as fault
use Rattle.mpb_script.specs.Document.{HasDocument}
use Rattle.mpb_script.specs.Words.{script_fault_of}
use Rattle.mpb_script.specs.Script.{Describes, IsScriptOf, HasFault}
use Rattle.mpb_script.proofs.ProgramLemmas.{all_ok}
use Rattle.mpb_script.specs.Answers.{IsCauseOf, AnswersScript, AnswersFault}

one_document : (text : List ℕ) (ms ns : Members) → HasDocument text ms → HasDocument text ns → ms ≡ ns
one_document text ms ns first second =
    let same : Some ms ≡ Some ns = sym first.1 ∙ second.1 in
    cc

ops_unique : {A : Type 0} (xs ys : List A) → all_ok xs ≡ all_ok ys → xs ≡ ys
ops_unique [] [] e = refl
ops_unique [] (y ∷ ys) e = cc
ops_unique (x ∷ xs) [] e = cc
ops_unique (x ∷ xs) (y ∷ ys) e =
    let heads : x ≡ y = cc in
    let tails : all_ok xs ≡ all_ok ys = cc in
    let rest = ops_unique xs ys tails in
    cc

cpus_unique : (cs ds : List CpuScript) → map (λ c. c.id) cs ≡ map (λ c. c.id) ds → map (λ c. all_ok c.words) cs ≡ map (λ c. all_ok c.words) ds → cs ≡ ds
cpus_unique [] [] ids words = refl
cpus_unique [] (d ∷ ds) ids words = cc
cpus_unique (c ∷ cs) [] ids words = cc
cpus_unique (c ∷ cs) (d ∷ ds) ids words =
    let id : c.id ≡ d.id = cc in
    let said : all_ok c.words ≡ all_ok d.words = cc in
    let program : c.words ≡ d.words = ops_unique c.words d.words said in
    let heads : c ≡ d = λ i. record { id = id i; words = program i } in
    let more_ids : map (λ c. c.id) cs ≡ map (λ c. c.id) ds = cc in
    let more_words : map (λ c. all_ok c.words) cs ≡ map (λ c. all_ok c.words) ds = cc in
    let rest : cs ≡ ds = cpus_unique cs ds more_ids more_words in
    cc

devices_unique : (ps qs : List (List DevWord)) → map all_ok ps ≡ map all_ok qs → ps ≡ qs
devices_unique [] [] e = refl
devices_unique [] (q ∷ qs) e = cc
devices_unique (p ∷ ps) [] e = cc
devices_unique (p ∷ ps) (q ∷ qs) e =
    let said : all_ok p ≡ all_ok q = cc in
    let heads : p ≡ q = ops_unique p q said in
    let more : map all_ok ps ≡ map all_ok qs = cc in
    let rest : ps ≡ qs = devices_unique ps qs more in
    cc

Describes-unique : (d : Data) (s t : Script) → Describes d s → Describes d t → s ≡ t
Describes-unique d s t a b =
    let pages : s.page ≡ t.page = a.page ∙ sym b.page in
    let elcrs : s.elcr ≡ t.elcr = a.elcr ∙ sym b.elcr in
    let presents : s.present ≡ t.present = a.present ∙ sym b.present in
    let all_cpus : s.cpus ≡ t.cpus = cpus_unique s.cpus t.cpus (a.cpu_ids ∙ sym b.cpu_ids) (a.cpu_words ∙ sym b.cpu_words) in
    let all_devices : s.devices ≡ t.devices = devices_unique s.devices t.devices (a.device_words ∙ sym b.device_words) in
    λ i. record { page = pages i; elcr = elcrs i; present = presents i; cpus = all_cpus i; devices = all_devices i }

pub IsScriptOf-unique : (text : List ℕ) (s t : Script) → IsScriptOf text s → IsScriptOf text t → s ≡ t
IsScriptOf-unique text s t a b =
    let same : a.members ≡ b.members = one_document text a.members b.members a.document b.document in
    Describes-unique (table b.members) s t (subst (λ ms. Describes (table ms) s) same a.says) b.says

-- a fault is that of no document, or of one
HasFault-either : (text : List ℕ) (f : ScriptFault) → HasFault text f
    → ((f ≡ fault.NotToml) × ((ms : Members) → HasDocument text ms → ⊥)) ⊎ ((ms : Members) × HasDocument text ms × (script_fault_of (table ms) ≡ Some f))
HasFault-either text fault.NotToml has = inl (refl, has)
HasFault-either text fault.NoMemory has = absurd has
HasFault-either text (fault.Key k) has = inr has
HasFault-either text (fault.Many n) has = inr has
HasFault-either text (fault.Word a i w) has = inr has

faults_of_documents : (text : List ℕ) (e f : ScriptFault) → (ms : Members) × HasDocument text ms × (script_fault_of (table ms) ≡ Some e) → (ms : Members) × HasDocument text ms × (script_fault_of (table ms) ≡ Some f) → e ≡ f
faults_of_documents text e f one two =
    let same : one.0 ≡ two.0 = one_document text one.0 two.0 one.1 two.1 in
    let found : Some e ≡ Some f = sym one.2 ∙ ap (λ ms. script_fault_of (table ms)) same ∙ two.2 in
    cc

pub HasFault-unique : (text : List ℕ) (e f : ScriptFault) → HasFault text e → HasFault text f → e ≡ f
HasFault-unique text e f a b = elim (HasFault-either text e a) [
  | inl absent ↦ elim (HasFault-either text f b) [
    | inl none ↦ absent.0 ∙ sym none.0
    | inr doc ↦ absurd (absent.1 doc.0 doc.1)
  ]
  | inr doc ↦ elim (HasFault-either text f b) [
    | inl none ↦ absurd (none.1 doc.0 doc.1)
    | inr other ↦ faults_of_documents text e f doc other
  ]
]

-- a script has no fault
pub IsScriptOf-no_fault : (text : List ℕ) (s : Script) (f : ScriptFault) → IsScriptOf text s → HasFault text f → ⊥
IsScriptOf-no_fault text s f is has = elim (HasFault-either text f has) [
  | inl absent ↦ absent.1 is.members is.document
  | inr doc ↦
      let same : doc.0 ≡ is.members = one_document text doc.0 is.members doc.1 is.document in
      let found : Some f ≡ None = sym doc.2 ∙ ap (λ ms. script_fault_of (table ms)) same ∙ is.sound in
      cc
]

pub AnswersScript-only : (text : List ℕ) (r : Result Script ScriptFault) → IfOk r (IsScriptOf text) → IfErr r (IsCauseOf text) → (s : Script) → IsScriptOf text s → AnswersScript r s
AnswersScript-only text (Ok found) ok err s is = IsScriptOf-unique text found s ok is
AnswersScript-only text (Err fault.NotToml) ok err s is = IsScriptOf-no_fault text s fault.NotToml is err
AnswersScript-only text (Err (fault.Key k)) ok err s is = IsScriptOf-no_fault text s (fault.Key k) is err
AnswersScript-only text (Err (fault.Many n)) ok err s is = IsScriptOf-no_fault text s (fault.Many n) is err
AnswersScript-only text (Err (fault.Word a i w)) ok err s is = IsScriptOf-no_fault text s (fault.Word a i w) is err
AnswersScript-only text (Err fault.NoMemory) ok err s is = tt

pub AnswersFault-only : (text : List ℕ) (r : Result Script ScriptFault) → IfOk r (IsScriptOf text) → IfErr r (IsCauseOf text) → (f : ScriptFault) → HasFault text f → AnswersFault r f
AnswersFault-only text (Ok found) ok err f has = IsScriptOf-no_fault text found f ok has
AnswersFault-only text (Err fault.NotToml) ok err f has = HasFault-unique text fault.NotToml f err has
AnswersFault-only text (Err (fault.Key k)) ok err f has = HasFault-unique text (fault.Key k) f err has
AnswersFault-only text (Err (fault.Many n)) ok err f has = HasFault-unique text (fault.Many n) f err has
AnswersFault-only text (Err (fault.Word a i w)) ok err f has = HasFault-unique text (fault.Word a i w) f err has
AnswersFault-only text (Err fault.NoMemory) ok err f has = tt
