-- The words of a script's programs: each is one that a processor or a device may have, at a place that is there.
use Rattle.std.proofs.Common.{◌≡◌, ◌==◌, ℕ, ◌<◌, ◌≤◌, Bool, true, false, cond, ◌&&◌, ◌||◌, List, [], ◌∷◌, None, Some, nat_le, option_map, refl, ap, ◌∙◌, arith, inl, inr}
use Rattle.std.specs.Prelude.{unwrap_or}
use Rattle.std.specs.List.{AllByRecursion, list_any, find}
use Rattle.std.proofs.lemmas.Bool.{eqb-true, eq-eqb, le-leb, cases_lt}
use Rattle.mpb_spec.specs.declared.agent.Op.{Op}
use Rattle.mpb_spec.specs.declared.agent.Op.TheVariants as op
use Rattle.mpb_spec.specs.declared.config.DevWord.{DevWord}
use Rattle.mpb_spec.specs.declared.config.DevWord.TheVariants as word
use Rattle.mpb_spec.specs.Numbers.{has}
use Rattle.mpb_spec.specs.Configs.{IsWordOn, IsOpOn, IsAimed, IsAtPage, is_script_op}
use Rattle.mpb_words.specs.Values.{IsCpuWord, IsDeviceWord}
use Rattle.mpb_words.proofs.CallerLemmas.{two_models}
use Rattle.mpb_script.specs.declared.script.Script.{Script}
use Rattle.mpb_script.specs.declared.script.CpuScript.{CpuScript}
use Rattle.mpb_setup.specs.Board.{cpu_words}
use Rattle.mpb_setup.specs.Faults.{is_op_at, is_word_at, names_place, least_absent_place}
use Rattle.mpb_setup.proofs.ListLemmas.{find-none}

-- no place from n on is named
abbrev pub NamesBelow : ℕ → List ℕ → Script → Type 0
NamesBelow n ids s = (a : ℕ) → n ≤ a → a < 4 → names_place ids s a ≡ false

pub names_below : (n : ℕ) (ids : List ℕ) (s : Script) → least_absent_place n ids s ≡ None → NamesBelow n ids s
names_below n ids s e a l m = go (names_place ids s a) refl (find-none (λ b. nat_le n b && names_place ids s b) 0 4 e a (omega arith) (omega (arith, m)))
  where
    le : nat_le n a ≡ true
    le = le-leb n a l

    go : (b : Bool) → names_place ids s a ≡ b → (nat_le n a && b) ≡ false → b ≡ false
    go true q h = let t = le in cc
    go false q h = refl

left : (b c : Bool) → (b || c) ≡ false → b ≡ false
left true c e = cc
left false c e = refl

right : (b c : Bool) → (b || c) ≡ false → c ≡ false
right true c e = cc
right false c e = e

-- an op of a processor's script, at a place that is there
pub record IsScriptOp (n boot page_number : ℕ) (o : Op) : Type 0 where
  pub kind : is_script_op o ≡ true
  pub place : IsOpOn n o
  pub target : IsAimed boot o
  pub page : IsAtPage page_number o

below : (n a : ℕ) → a < 4 → ((b : ℕ) → n ≤ b → b < 4 → (a == b) ≡ false) → a < n
below n a l h = elim (cases_lt a n) [ inl lt ↦ lt | inr le ↦ absurd (let off = h a le l in let on : (a == a) ≡ true = eq-eqb a a refl in cc) ]

script_op : (n boot page : ℕ) (o : Op) → IsCpuWord o → ((a : ℕ) → n ≤ a → a < 4 → is_op_at a o ≡ false) → IsScriptOp n boot page o
script_op n boot page (op.Ipi d v) h k = record { kind = refl; place = tt; target = tt; page = tt }
script_op n boot page (op.Ipl d v) h k = record { kind = refl; place = tt; target = tt; page = tt }
script_op n boot page (op.Nmi d) h k = record { kind = refl; place = tt; target = tt; page = tt }
script_op n boot page op.Take h k = record { kind = refl; place = tt; target = tt; page = tt }
script_op n boot page op.Poll h k = record { kind = refl; place = tt; target = tt; page = tt }
script_op n boot page op.Eoi h k = record { kind = refl; place = tt; target = tt; page = tt }
script_op n boot page (op.Tpr t) h k = record { kind = refl; place = tt; target = tt; page = tt }
script_op n boot page (op.Ldr t) h k = record { kind = refl; place = tt; target = tt; page = tt }
script_op n boot page (op.Dfr t) h k = record { kind = two_models t h; place = tt; target = tt; page = tt }
script_op n boot page (op.IoSel a r) h k = record { kind = refl; place = below n a h.0 k; target = tt; page = tt }
script_op n boot page (op.IoWin a v) h k = record { kind = refl; place = below n a h.0 k; target = tt; page = tt }
script_op n boot page (op.IoRead a) h k = record { kind = refl; place = below n a h k; target = tt; page = tt }
script_op n boot page (op.Pause us) h k = record { kind = le-leb us 1000000 h; place = tt; target = tt; page = tt }
script_op n boot page o h k = absurd h

script_ops : (n boot page : ℕ) (os : List Op) → AllByRecursion IsCpuWord os → ((a : ℕ) → n ≤ a → a < 4 → list_any (is_op_at a) os ≡ false) → AllByRecursion (IsScriptOp n boot page) os
script_ops n boot page [] h k = tt
script_ops n boot page (o ∷ os) h k = (
  script_op n boot page o h.0 (λ a l m. left (is_op_at a o) (list_any (is_op_at a) os) (k a l m)),
  script_ops n boot page os h.1 (λ a l m. right (is_op_at a o) (list_any (is_op_at a) os) (k a l m)),
)

-- a processor's words, where its id is one of the board's
words_right : (n boot page id : ℕ) (ids : List ℕ) (cs : List CpuScript) → has id ids ≡ true → AllByRecursion (λ c. AllByRecursion IsCpuWord c.words) cs → ((a : ℕ) → n ≤ a → a < 4 → list_any (λ c. has c.id ids && list_any (is_op_at a) c.words) cs ≡ false) → AllByRecursion (IsScriptOp n boot page) (cpu_words cs id)
words_right n boot page id ids [] i h k = tt
words_right n boot page id ids (c ∷ cs) i h k = go (c.id == id) refl (words_right n boot page id ids cs i h.1 (λ a l m. right (has c.id ids && list_any (is_op_at a) c.words) (list_any (λ d. has d.id ids && list_any (is_op_at a) d.words) cs) (k a l m)))
  where
    here : c.id ≡ id → (a : ℕ) → n ≤ a → a < 4 → list_any (is_op_at a) c.words ≡ false
    here e a l m = two (has c.id ids) (ap (λ (x : ℕ). has x ids) e ∙ i) (left (has c.id ids && list_any (is_op_at a) c.words) (list_any (λ d. has d.id ids && list_any (is_op_at a) d.words) cs) (k a l m))
      where
        two : (b : Bool) → b ≡ true → (b && list_any (is_op_at a) c.words) ≡ false → list_any (is_op_at a) c.words ≡ false
        two true t q = q
        two false t q = cc

    go : (b : Bool) → (c.id == id) ≡ b → AllByRecursion (IsScriptOp n boot page) (cpu_words cs id) → AllByRecursion (IsScriptOp n boot page) (unwrap_or (option_map (λ d. d.words) (cond b (Some c) (find (λ d. d.id == id) cs))) [])
    go true b rest = script_ops n boot page c.words h.0 (here (eqb-true c.id id b))
    go false b rest = rest

pub cpu_words_right : (n boot page id : ℕ) (ids : List ℕ) (s : Script) → has id ids ≡ true → AllByRecursion (λ c. AllByRecursion IsCpuWord c.words) s.cpus → NamesBelow n ids s → AllByRecursion (IsScriptOp n boot page) (cpu_words s.cpus id)
cpu_words_right n boot page id ids s i h k =
    words_right n boot page id ids s.cpus i h (λ a l m. left (list_any (λ c. has c.id ids && list_any (is_op_at a) c.words) s.cpus) (list_any (list_any (is_word_at a)) s.devices) (k a l m))

-- the words of devices
device_word : (n : ℕ) (w : DevWord) → IsDeviceWord w → ((a : ℕ) → n ≤ a → a < 4 → is_word_at a w ≡ false) → IsWordOn n w
device_word n (word.Pulse a pin) h k = (below n a h.0 k, h.1)
device_word n (word.High a pin) h k = (below n a h.0 k, h.1)
device_word n (word.Low a pin) h k = (below n a h.0 k, h.1)

device_right : (n : ℕ) (ws : List DevWord) → AllByRecursion IsDeviceWord ws → ((a : ℕ) → n ≤ a → a < 4 → list_any (is_word_at a) ws ≡ false) → AllByRecursion (IsWordOn n) ws
device_right n [] h k = tt
device_right n (w ∷ ws) h k = (
  device_word n w h.0 (λ a l m. left (is_word_at a w) (list_any (is_word_at a) ws) (k a l m)),
  device_right n ws h.1 (λ a l m. right (is_word_at a w) (list_any (is_word_at a) ws) (k a l m)),
)

devices_on : (n : ℕ) (ds : List (List DevWord)) → AllByRecursion (AllByRecursion IsDeviceWord) ds → ((a : ℕ) → n ≤ a → a < 4 → list_any (list_any (is_word_at a)) ds ≡ false) → AllByRecursion (AllByRecursion (IsWordOn n)) ds
devices_on n [] h k = tt
devices_on n (ws ∷ ds) h k = (
  device_right n ws h.0 (λ a l m. left (list_any (is_word_at a) ws) (list_any (list_any (is_word_at a)) ds) (k a l m)),
  devices_on n ds h.1 (λ a l m. right (list_any (is_word_at a) ws) (list_any (list_any (is_word_at a)) ds) (k a l m)),
)

pub devices_right : (n : ℕ) (ids : List ℕ) (s : Script) → AllByRecursion (AllByRecursion IsDeviceWord) s.devices → NamesBelow n ids s → AllByRecursion (AllByRecursion (IsWordOn n)) s.devices
devices_right n ids s h k =
    devices_on n s.devices h (λ a l m. right (list_any (λ c. has c.id ids && list_any (is_op_at a) c.words) s.cpus) (list_any (list_any (is_word_at a)) s.devices) (k a l m))
