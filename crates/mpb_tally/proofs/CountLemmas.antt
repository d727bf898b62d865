-- How many hits a run has, and that a drill's board is only wanting where memory is.
use Rattle.std.proofs.Common.{◌≡◌, ◌≤◌, ◌<◌, ◌^◌, ℕ, ◌+◌, List, [], ◌∷◌, ◌++◌, append_assoc, length, map, take, get_or, Result, Ok, Err, IfOk, OnOk, refl, sym, ap, ◌∙◌, arith}
use Rattle.std.specs.Prelude.{sum_by}
use Rattle.std.specs.List.{concat}
use Rattle.std.proofs.lemmas.List.{length-map, append-nil}
use Rattle.std.proofs.lemmas.List.Sums.{sum_by-cons, sum_by_more}
use Rattle.mpb_spec.specs.declared.config.DevWord.{DevWord}
use Rattle.mpb_spec.specs.declared.config.DevWord.TheVariants as word
use Rattle.mpb_spec.specs.declared.entry.Entry.{Entry}
use Rattle.mpb_spec.specs.declared.fault.BoardError.{BoardError}
use Rattle.mpb_spec.specs.declared.fault.BoardError.TheVariants as fault
use Rattle.mpb_spec.specs.Plan.{Plan, plan_size}
use Rattle.mpb_spec.specs.declared.pulse.Pulse.{Pulse}
use Rattle.mpb_spec.specs.declared.pulse.Hit.{Hit}
use Rattle.mpb_spec.specs.Pulses.{pulses_of, pulses_in}
use Rattle.mpb_robin.specs.Account.{AccountsForPulses}
use Rattle.mpb_setup.specs.Answers.{AnswersConfig}

-- a log has as many hits as pulses
hits_pulses : (logs : List (List (Pulse × Hit))) → sum_by (λ (l : List (Pulse × Hit)). length l) logs ≡ sum_by (λ (l : List Pulse). length l) (map pulses_of logs)
hits_pulses [] = refl
hits_pulses (l ∷ logs) =
    let a = sum_by-cons (λ (x : List (Pulse × Hit)). length x) l logs in
    let b = sum_by-cons (λ (x : List Pulse). length x) (pulses_of l) (map pulses_of logs) in
    let n = length-map l (λ (x : Pulse × Hit). x.0) in
    let rest = hits_pulses logs in
    omega (arith, a, b, n, rest)

-- a device has no more pulses than words
few_pulses : (words : List DevWord) → length (pulses_in words) ≤ length words
few_pulses [] = omega arith
few_pulses (word.Pulse a pin ∷ words) = let rest = few_pulses words in omega (arith, rest)
few_pulses (word.High a pin ∷ words) = let rest = few_pulses words in omega (arith, rest)
few_pulses (word.Low a pin ∷ words) = let rest = few_pulses words in omega (arith, rest)

all_few : (devices : List (List DevWord)) → sum_by (λ (l : List Pulse). length l) (map pulses_in devices) ≤ sum_by (λ (words : List DevWord). length words + 2) devices
all_few [] = omega arith
all_few (d ∷ ds) =
    let a = sum_by-cons (λ (x : List Pulse). length x) (pulses_in d) (map pulses_in ds) in
    let b = sum_by-cons (λ (words : List DevWord). length words + 2) d ds in
    let one = few_pulses d in
    let rest = all_few ds in
    omega (arith, a, b, one, rest)

-- the logs of a board have as few hits as its plan has pulses
pub few_hits : (c : Plan) (journal : List Entry) (logs : List (List (Pulse × Hit))) → AccountsForPulses c journal logs → plan_size c < 2 ^ 32 → sum_by (λ (l : List (Pulse × Hit)). length l) logs < 2 ^ 32
few_hits c journal logs accounts small =
    let a = hits_pulses logs in
    let b = ap (λ ls. sum_by (λ (l : List Pulse). length l) ls) accounts.pulses in
    let d = all_few c.devices in
    omega (arith, a, b, d, small)

-- what follows from what an answer is
pub answer_only : {A E : Type 0} (r : Result A E) (P Q : A → Type 0) → ((x : A) → P x → Q x) → IfOk r P → IfOk r Q
answer_only (Ok x) P Q f p = f x p
answer_only (Err e) P Q f p = tt

-- three lines behind what was written
pub three_lines : {E : Type 0} (r : Result (Unit {0}) E) (before one two now x y z : List ℕ) → one ≡ before ++ x → two ≡ one ++ y → OnOk r (now ≡ two ++ z) → OnOk r (now ≡ before ++ concat (x ∷ y ∷ z ∷ []))
three_lines (Ok u) before one two now x y z a b c =
    c ∙ ap (λ l. l ++ z) (b ∙ ap (λ l. l ++ y) a) ∙ append_assoc (before ++ x) y z ∙ append_assoc before x (y ++ z)
    ∙ ap (λ l. before ++ (x ++ (y ++ l))) (sym (append-nil z))
three_lines (Err e) before one two now x y z a b c = tt

-- a sum over what is made of each
pub sum_of_made : {A B : Type 0} (f : B → ℕ) (g : A → B) (xs : List A) → sum_by (λ x. f (g x)) xs ≡ sum_by f (map g xs)
sum_of_made f g [] = refl
sum_of_made f g (x ∷ xs) =
    let a = sum_by-cons (λ x. f (g x)) x xs in
    let b = sum_by-cons f (g x) (map g xs) in
    let rest = sum_of_made f g xs in
    omega (arith, a, b, rest)

-- where an answer is a config, each refusal is for want of memory
pub no_refusal : (e : BoardError) (c : Plan) → AnswersConfig (Err e) c → e ≡ fault.NoMemory
no_refusal fault.NoMemory c h = refl
no_refusal fault.NoBoot c h = absurd h
no_refusal (fault.DoubleId id) c h = absurd h
no_refusal (fault.WideId id) c h = absurd h
no_refusal (fault.BootWide id) c h = absurd h
no_refusal (fault.BootAbsent id) c h = absurd h
no_refusal (fault.ManyCpus n) c h = absurd h
no_refusal (fault.ManyIo n) c h = absurd h
no_refusal (fault.NoIo place) c h = absurd h

-- a sum with what the next one adds
pub sum_on : {X : Type 0} (f : X → ℕ) (xs : List X) (i : ℕ) (x : X) (sum n : ℕ) → i < length xs → x ≡ get_or xs i x → sum ≡ sum_by f (take i xs) → n ≡ f x → sum + n ≡ sum_by f (take (i + 1) xs)
sum_on f xs i x sum n within is so_far here =
    let more = sum_by_more f xs i x within in
    let same = ap f is in
    omega (arith, more, same, so_far, here)
