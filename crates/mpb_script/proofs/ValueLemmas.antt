-- A script that was read has the values of one.
use Rattle.std.proofs.Common.{◌≡◌, ℕ, suc, ◌+◌, ◌<◌, ◌≤◌, ◌⊎◌, inl, inr, Bool, true, false, not, cond, ◌||◌, List, [], ◌∷◌, ◌++◌, length, map, codes, Option, Some, None, IfSome, option_map, Result, Ok, Err, IfOk, nat_lt, nat_le, nat_eq, refl, sym, ap, subst, ◌∙◌, arith, ℤ, pos, negsuc}
use Rattle.std.proofs.lemmas.Bool.{leb-true, ltb-true}
use Rattle.std.proofs.lemmas.List.{length-map}
use Rattle.std.proofs.lemmas.List.Folds.{list_any-append}
use Rattle.std.proofs.lemmas.List.Sums.{sum_by-cons}
use Rattle.std.specs.List.{AllByRecursion, IsDistinct, sum_by}
use Rattle.toml.specs.Data.{Data, table, get, as_integer}
use Rattle.mpb_spec.specs.declared.config.DevWord.{DevWord}
use Rattle.mpb_words.specs.declared.refusal.WordWhy.{WordWhy}
use Rattle.mpb_words.specs.Words.{cpu_op_of, device_word_of}
use Rattle.mpb_words.specs.Values.{IsCpuWord, IsDeviceWord}
use Rattle.mpb_words.proofs.CallerLemmas.{cpu_op_of-values, device_word_of-values}
use Rattle.mpb_script.specs.declared.keys.Place.TheVariants as of
use Rattle.mpb_script.specs.declared.script.KeyName.{KeyName}
use Rattle.mpb_script.specs.declared.script.KeyName.TheVariants as key
use Rattle.mpb_script.specs.declared.script.Script.{Script}
use Rattle.mpb_script.specs.declared.script.CpuScript.{CpuScript}
use Rattle.mpb_script.specs.declared.script.ScriptFault.{ScriptFault}
use Rattle.mpb_script.specs.declared.script.ScriptFault.TheVariants as fault
use Rattle.mpb_script.specs.Document.{whole_up_to, whole_found, whole_at, number_or_zero, number_in, number_at, elements, elements_at, text_of}
use Rattle.mpb_script.specs.Keys.{◌<|>◌, unless, is_page, wrong_key, wrong_head, wrong_cpu, wrong_cpus, wrong_devices, has_further_key, id_of, is_number, has_id, is_new_id}
use Rattle.mpb_script.specs.Words.{cpu_tables, device_tables, cpu_id, words_of, many, all_words, script_fault_of}
use Rattle.mpb_script.specs.Script.{Describes, IsScriptOf}
use Rattle.mpb_script.specs.Values.{words_in, HasScriptValues}
use Rattle.mpb_script.specs.Steps.{word_count}
use Rattle.mpb_script.proofs.ProgramLemmas.{all_ok}
use Rattle.mpb_script.proofs.WordLemmas.{length-all_words}
use Rattle.mpb_script.proofs.FaultLemmas.{none_first, none_second, is_right, few_devices}

-- a number that stands in a document is at most the greatest of its place
up_to : (b : Bool) (most n : ℕ) → b ≡ nat_le n most → number_or_zero (cond b (Some n) None) ≤ most
up_to true most n e = leb-true n most (sym e)
up_to false most n e = omega arith

whole_up_to-limit : (most : ℕ) (o : Option ℤ) → number_or_zero (whole_up_to most o) ≤ most
whole_up_to-limit most None = omega arith
whole_up_to-limit most (Some (pos n)) = up_to (nat_le n most) most n refl
whole_up_to-limit most (Some (negsuc n)) = omega arith

number_in-limit : (most : ℕ) (d : Data) → number_in most d ≤ most
number_in-limit most d = whole_up_to-limit most (as_integer d)

whole_found-limit : (most : ℕ) (o : Option Data) → number_or_zero (whole_found most o) ≤ most
whole_found-limit most None = omega arith
whole_found-limit most (Some d) = number_in-limit most d

number_at-limit : (most : ℕ) (k : List ℕ) (d : Data) → number_at most k d ≤ most
number_at-limit most k d = whole_found-limit most (get k d)

-- the page
page_side : (b : Bool) (n : ℕ) → b ≡ nat_lt n 0xA0 → (b || nat_lt 0xBF n) ≡ true → n ≤ 255 → (n < 0xA0) ⊎ ((0xBF < n) × (n < 256))
page_side true n is right limit = inl (ltb-true n 0xA0 (sym is))
page_side false n is right limit = inr (ltb-true 0xBF n right, omega arith)

page_range : (o : Option ℕ) → is_page o ≡ true → number_or_zero o ≤ 255 → (number_or_zero o < 0xA0) ⊎ ((0xBF < number_or_zero o) × (number_or_zero o < 256))
page_range None right limit = cc
page_range (Some n) right limit = page_side (nat_lt n 0xA0) n refl right limit

page_right : (d : Data) → wrong_head d ≡ None → is_page (whole_at 255 (codes "page") d) ≡ true
unfolding wrong_head
page_right d none = is_right _ key.Page (none_first (unless (is_page (whole_at 255 (codes "page") d)) key.Page) _ none)

-- the parts of a document without a wrong key
head_right : (d : Data) → wrong_key d ≡ None → wrong_head d ≡ None
unfolding wrong_key
head_right d none = none_first (wrong_head d) _ none

cpus_right : (d : Data) → wrong_key d ≡ None → wrong_cpus [] (cpu_tables d) ≡ None
unfolding wrong_key
cpus_right d none =
    none_first (wrong_cpus [] (elements_at (codes "cpu") d)) _
    (none_second (wrong_head d) (wrong_cpus [] (elements_at (codes "cpu") d) <|> (wrong_devices (elements_at (codes "device") d) <|> unless (not (has_further_key of.Document d)) key.Unknown)) none)

-- ids in their range
ids_range : (cs : List CpuScript) (ts : List Data) → map (λ c. c.id) cs ≡ map cpu_id ts → AllByRecursion (λ c. c.id < 255) cs
ids_range [] ts same = tt
ids_range (c ∷ cs) [] same = cc
ids_range (c ∷ cs) (t ∷ ts) same =
    let id : c.id ≡ cpu_id t = cc in
    let more : map (λ c. c.id) cs ≡ map cpu_id ts = cc in
    let limit = number_at-limit 254 (codes "id") t in
    (omega arith, ids_range cs ts more)

numbers_range : (ds : List Data) → AllByRecursion (λ n. n < 255) (map (number_in 254) ds)
numbers_range [] = tt
numbers_range (d ∷ ds) = let limit = number_in-limit 254 d in (omega arith, numbers_range ds)

present_range : (o : Option Data) → IfSome (option_map (λ v. map (number_in 254) (elements v)) o) (AllByRecursion (λ n. n < 255))
present_range None = tt
present_range (Some v) = numbers_range (elements v)

-- distinct ids: where none of the earlier tables has a number, this table hasn't
abbrev Covers : List Data → Data → Type 0
Covers earlier t = (n : ℕ) → has_id n earlier ≡ false → is_number n (id_of t) ≡ false

or_parts : (x y : Bool) → (x || y) ≡ false → (x ≡ false) × (y ≡ false)
or_parts true y e = cc
or_parts false y e = (refl, e)

has_id-more : (n : ℕ) (earlier : List Data) (t : Data) → has_id n (earlier ++ t ∷ []) ≡ false → (has_id n earlier ≡ false) × (is_number n (id_of t) ≡ false)
has_id-more n earlier t none =
    let parts = or_parts (has_id n earlier) (has_id n (t ∷ [])) (sym (list_any-append (λ x. is_number n (id_of x)) earlier (t ∷ [])) ∙ none) in
    (parts.0, (or_parts (is_number n (id_of t)) false parts.1).0)

Covers-last : (earlier : List Data) (t : Data) → Covers (earlier ++ t ∷ []) t
Covers-last earlier t n none = (has_id-more n earlier t none).1

Covers-more : (earlier : List Data) (t u : Data) → Covers earlier t → Covers (earlier ++ u ∷ []) t
Covers-more earlier t u covers n none = covers n (has_id-more n earlier u none).0

not-true : (b : Bool) → not b ≡ true → b ≡ false
not-true true e = cc
not-true false e = refl

table_right : (earlier : List Data) (t : Data) (ts : List Data) → wrong_cpus earlier (t ∷ ts) ≡ None → (is_new_id earlier (id_of t) ≡ true) × (wrong_cpus (earlier ++ t ∷ []) ts ≡ None)
unfolding wrong_cpu
table_right earlier t ts none = (
  is_right (is_new_id earlier (id_of t)) key.CpuId (none_first (unless (is_new_id earlier (id_of t)) key.CpuId) _ (none_first (wrong_cpu earlier t) (wrong_cpus (earlier ++ t ∷ []) ts) none)),
  none_second (wrong_cpu earlier t) (wrong_cpus (earlier ++ t ∷ []) ts) none,
)

-- an id that is none of the earlier tables isn't this table's
apart_from : (earlier : List Data) (t : Data) (o : Option ℕ) → Covers earlier t → is_new_id earlier o ≡ true → (p : Option ℕ) → id_of t ≡ p → is_number (number_or_zero o) p ≡ false
apart_from earlier t None covers new p is = cc
apart_from earlier t (Some n) covers new p is = ap (is_number n) (sym is) ∙ covers n (not-true (has_id n earlier) new)

apart : (m : ℕ) (t : Data) → id_of t ≡ Some m → (earlier ts : List Data) → Covers earlier t → wrong_cpus earlier ts ≡ None → AllByRecursion (λ y. nat_eq m y ≡ false) (map cpu_id ts)
apart m t is earlier [] covers none = tt
apart m t is earlier (u ∷ ts) covers none =
    let right = table_right earlier u ts none in
    (apart_from earlier t (id_of u) covers right.0 (Some m) is, apart m t is (earlier ++ u ∷ []) ts (Covers-more earlier t u covers) right.1)

new_is_some : (earlier : List Data) (o : Option ℕ) → is_new_id earlier o ≡ true → o ≡ Some (number_or_zero o)
new_is_some earlier None new = cc
new_is_some earlier (Some n) new = refl

ids_distinct : (earlier ts : List Data) → wrong_cpus earlier ts ≡ None → IsDistinct nat_eq (map cpu_id ts)
unfolding IsDistinct
ids_distinct earlier [] none = tt
ids_distinct earlier (t ∷ ts) none =
    let right = table_right earlier t ts none in (
      apart (cpu_id t) t (new_is_some earlier (id_of t) right.0) (earlier ++ t ∷ []) ts (Covers-last earlier t) right.1,
      ids_distinct (earlier ++ t ∷ []) ts right.1,
    )

-- words of their kind
program_values : {A : Type 0} (P : A → Type 0) (word : List ℕ → Result A WordWhy) → ((w : List ℕ) (a : A) → word w ≡ Ok a → P a) → (ops : List A) (ws : List (List ℕ)) → all_ok ops ≡ map word ws → AllByRecursion P ops
program_values P word holds [] ws same = tt
program_values P word holds (a ∷ ops) [] same = cc
program_values P word holds (a ∷ ops) (w ∷ ws) same =
    let said : word w ≡ Ok a = cc in
    let more : all_ok ops ≡ map word ws = cc in
    (holds w a said, program_values P word holds ops ws more)

cpu_values : (cs : List CpuScript) (ts : List Data) → map (λ c. all_ok c.words) cs ≡ map (λ t. map cpu_op_of (words_of t)) ts → AllByRecursion (λ c. AllByRecursion IsCpuWord c.words) cs
cpu_values [] ts same = tt
cpu_values (c ∷ cs) [] same = cc
cpu_values (c ∷ cs) (t ∷ ts) same =
    let said : all_ok c.words ≡ map cpu_op_of (words_of t) = cc in
    let more : map (λ c. all_ok c.words) cs ≡ map (λ t. map cpu_op_of (words_of t)) ts = cc in
    (program_values IsCpuWord cpu_op_of cpu_op_of-values c.words (words_of t) said, cpu_values cs ts more)

device_values : (ps : List (List DevWord)) (ts : List Data) → map all_ok ps ≡ map (λ t. map device_word_of (words_of t)) ts → AllByRecursion (AllByRecursion IsDeviceWord) ps
device_values [] ts same = tt
device_values (p ∷ ps) [] same = cc
device_values (p ∷ ps) (t ∷ ts) same =
    let said : all_ok p ≡ map device_word_of (words_of t) = cc in
    let more : map all_ok ps ≡ map (λ t. map device_word_of (words_of t)) ts = cc in
    (program_values IsDeviceWord device_word_of device_word_of-values p (words_of t) said, device_values ps ts more)

-- counts
length-all_ok : {A : Type 0} (ops : List A) → length (all_ok ops) ≡ length ops
length-all_ok [] = refl
length-all_ok (a ∷ ops) = ap suc (length-all_ok ops)

program_length : {A : Type 0} (word : List ℕ → Result A WordWhy) (ops : List A) (t : Data) → all_ok ops ≡ map word (words_of t) → length ops ≡ length (elements_at (codes "words") t)
program_length word ops t same =
    sym (length-all_ok ops) ∙ ap length same ∙ length-map (words_of t) word ∙ length-map (elements_at (codes "words") t) text_of

cpu_count : (cs : List CpuScript) (ts : List Data) → map (λ c. all_ok c.words) cs ≡ map (λ t. map cpu_op_of (words_of t)) ts → sum_by (λ c. length c.words) cs ≡ word_count ts
cpu_count [] [] same = refl
cpu_count [] (t ∷ ts) same = cc
cpu_count (c ∷ cs) [] same = cc
cpu_count (c ∷ cs) (t ∷ ts) same =
    let said : all_ok c.words ≡ map cpu_op_of (words_of t) = cc in
    let more : map (λ c. all_ok c.words) cs ≡ map (λ t. map cpu_op_of (words_of t)) ts = cc in
    sum_by-cons (λ (c : CpuScript). length c.words) c cs
    ∙ ap (λ n. n + sum_by (λ (c : CpuScript). length c.words) cs) (program_length cpu_op_of c.words t said)
    ∙ ap (λ n. length (elements_at (codes "words") t) + n) (cpu_count cs ts more)
    ∙ sym (sum_by-cons (λ x. length (elements_at (codes "words") x)) t ts)

device_count : (ps : List (List DevWord)) (ts : List Data) → map all_ok ps ≡ map (λ t. map device_word_of (words_of t)) ts → sum_by length ps ≡ word_count ts
device_count [] [] same = refl
device_count [] (t ∷ ts) same = cc
device_count (p ∷ ps) [] same = cc
device_count (p ∷ ps) (t ∷ ts) same =
    let said : all_ok p ≡ map device_word_of (words_of t) = cc in
    let more : map all_ok ps ≡ map (λ t. map device_word_of (words_of t)) ts = cc in
    sum_by-cons length p ps
    ∙ ap (λ n. n + sum_by length ps) (program_length device_word_of p t said)
    ∙ ap (λ n. length (elements_at (codes "words") t) + n) (device_count ps ts more)
    ∙ sym (sum_by-cons (λ x. length (elements_at (codes "words") x)) t ts)

device_length : (ps : List (List DevWord)) (ts : List Data) → map all_ok ps ≡ map (λ t. map device_word_of (words_of t)) ts → length ps ≡ length ts
device_length ps ts same = sym (length-map ps all_ok) ∙ ap length same ∙ length-map ts (λ t. map device_word_of (words_of t))

-- a document without a fault has no wrong key, and few words
key_right : (o : Option KeyName) → option_map fault.Key o ≡ None → o ≡ None
key_right None e = refl
key_right (Some k) e = cc

no_wrong_key : (d : Data) → script_fault_of d ≡ None → wrong_key d ≡ None
unfolding script_fault_of
no_wrong_key d none = key_right (wrong_key d) (none_first (option_map fault.Key (wrong_key d)) _ none)

few_many : (b : Bool) (n : ℕ) (f : ScriptFault) → b ≡ nat_le n 8192 → cond b None (Some f) ≡ None → n ≤ 8192
few_many true n f is e = leb-true n 8192 (sym is)
few_many false n f is e = cc

no_more_words : (d : Data) → script_fault_of d ≡ None → length (all_words d) ≤ 8192
unfolding script_fault_of
no_more_words d none =
    few_many (nat_le (length (all_words d)) 8192) (length (all_words d)) _ refl
    (none_first (many (length (all_words d))) _ (none_second (option_map fault.Key (wrong_key d)) _ none))

few_words : (d : Data) (s : Script) → Describes d s → script_fault_of d ≡ None → words_in s ≤ 8192
few_words d s says none =
    let all = length-all_words d in
    let few = no_more_words d none in
    let cpus = cpu_count s.cpus (cpu_tables d) says.cpu_words in
    let devices = device_count s.devices (device_tables d) says.device_words in
    omega arith

document_values : (d : Data) (s : Script) → Describes d s → script_fault_of d ≡ None → HasScriptValues s
document_values d s says none =
    let right = no_wrong_key d none in
    let page_limit = number_at-limit 255 (codes "page") d in
    let page_here = page_range (whole_at 255 (codes "page") d) (page_right d (head_right d right)) page_limit in
    let elcr_limit = number_at-limit 65535 (codes "elcr") d in
    let elcr_same = says.elcr in
    let few = few_devices d (sym right) in
    let many_devices = device_length s.devices (device_tables d) says.device_words in
    record {
      page = subst (λ (n : ℕ). (n < 0xA0) ⊎ ((0xBF < n) × (n < 256))) (sym says.page) page_here;
      elcr = omega arith;
      present = subst (λ (o : Option (List ℕ)). IfSome o (AllByRecursion (λ n. n < 255))) (sym says.present) (present_range (get (codes "present") d));
      ids = ids_range s.cpus (cpu_tables d) says.cpu_ids;
      distinct = subst (λ (xs : List ℕ). IsDistinct nat_eq xs) (sym says.cpu_ids) (ids_distinct [] (cpu_tables d) (cpus_right d right));
      cpu_words = cpu_values s.cpus (cpu_tables d) says.cpu_words;
      device_words = device_values s.devices (device_tables d) says.device_words;
      few_devices = omega arith;
      few_words = few_words d s says none;
    }

-- a text's script has the values of one
pub IsScriptOf-values : (text : List ℕ) (s : Script) → IsScriptOf text s → HasScriptValues s
IsScriptOf-values text s is = document_values (table is.members) s is.says is.sound

pub values_of_answer : (text : List ℕ) (r : Result Script ScriptFault) → IfOk r (IsScriptOf text) → IfOk r HasScriptValues
values_of_answer text (Ok s) is = IsScriptOf-values text s is
values_of_answer text (Err e) is = tt
