-- What a bit of the rows and a redirection tell of the pins, and what their writing changes.
use Rattle.std.proofs.Common.{◌≡◌, ◌≢◌, ℕ, zero, suc, ◌+◌, ◌<◌, ◌≤◌, Bool, true, false, cond, List, [], ◌∷◌, length, get_or, set, replicate, refl, ap, ap₂, ◌∙◌, arith, Some, option_map, slice_get, subst}
use Rattle.mpb_spec.specs.Numbers.{has, with_number, without}
use Rattle.mpb_spec.specs.IoApic.{reset_pin}
use Rattle.mpb_spec.specs.declared.apic.Pin.{Pin}
use Rattle.mpb_spec.proofs.NumberLemmas.{has-with_itself, has-with_other, has-without_itself, has-without_other}
use Rattle.mpb_ioapic.specs.declared.redirection.Redirection.{Redirection}
use Rattle.mpb_ioapic.specs.declared.sign.Sign.{Sign}
use Rattle.mpb_ioapic.specs.declared.sign.Sign.TheVariants.{Line, Due, Remote}
use Rattle.mpb_ioapic.specs.Signs.{place_of, shows, pin_of, pins_from, pins_of}

length-pins_from : (rows : List ℕ) (m : ℕ) (es : List Redirection) → length (pins_from rows m es) ≡ length es
length-pins_from rows m [] = refl
length-pins_from rows m (e ∷ es) = ap suc (length-pins_from rows (m + 1) es)

pub length-pins_of : (rows : List ℕ) (es : List Redirection) → length (pins_of rows es) ≡ length es
unfolding pins_of
length-pins_of rows es = length-pins_from rows 0 es

-- with no member of the rows
pub pins_of-masked : pins_of [] (replicate 24 (record { low = 65536; high = 0 })) ≡ replicate 24 reset_pin
unfolding pins_of
pins_of-masked = refl

slice_get-pins_from : (rows : List ℕ) (m n : ℕ) (es : List Redirection) (d : Redirection) → n < length es → slice_get (pins_from rows m es) n ≡ Some (pin_of rows (m + n) (get_or es n d))
slice_get-pins_from rows m n [] d lt = absurd (omega arith)
slice_get-pins_from rows m zero (e ∷ es) d lt = let here : m ≡ m + 0 = omega arith in ap (λ (k : ℕ). Some (pin_of rows k e)) here
slice_get-pins_from rows m (suc n) (e ∷ es) d lt =
    let next : m + 1 + n ≡ m + suc n = omega arith in
    slice_get-pins_from rows (m + 1) n es d (omega arith) ∙ ap (λ (k : ℕ). Some (pin_of rows k (get_or es n d))) next

-- the pin of a number
pub slice_get-pins_of : (rows : List ℕ) (n : ℕ) (es : List Redirection) (d : Redirection) → n < length es → slice_get (pins_of rows es) n ≡ Some (pin_of rows n (get_or es n d))
unfolding pins_of
slice_get-pins_of rows n es d lt =
    let same : 0 + n ≡ n = omega arith in
    slice_get-pins_from rows 0 n es d lt ∙ ap (λ (k : ℕ). Some (pin_of rows k (get_or es n d))) same

shows-pin_of : (rows : List ℕ) (n : ℕ) (e : Redirection) (s : Sign) → shows s (pin_of rows n e) ≡ has (place_of s n) rows
shows-pin_of rows n e Line = refl
shows-pin_of rows n e Due = refl
shows-pin_of rows n e Remote = refl

-- a sign of the pin is its bit
pub shows-pins_of : (rows : List ℕ) (n : ℕ) (es : List Redirection) (d : Redirection) (s : Sign) → n < length es → option_map (shows s) (slice_get (pins_of rows es) n) ≡ Some (has (place_of s n) rows)
shows-pins_of rows n es d s lt = ap (option_map (shows s)) (slice_get-pins_of rows n es d lt) ∙ ap Some (shows-pin_of rows n (get_or es n d) s)

-- the rows with a number, or without it
abbrev pub with_bit : ℕ → Bool → List ℕ → List ℕ
with_bit v on rows = cond on (with_number v rows) (without v rows)

has-with_bit_itself : (v : ℕ) (on : Bool) (rows : List ℕ) → has v (with_bit v on rows) ≡ on
has-with_bit_itself v true rows = has-with_itself v rows
has-with_bit_itself v false rows = has-without_itself v rows

has-with_bit_other : (u v : ℕ) (on : Bool) (rows : List ℕ) → u ≢ v → has u (with_bit v on rows) ≡ has u rows
has-with_bit_other u v true rows ne = has-with_other u v rows ne
has-with_bit_other u v false rows ne = has-without_other u v rows ne

-- the rows with a pin's three bits
abbrev pub with_signs : ℕ → Pin → List ℕ → List ℕ
with_signs n p rows = with_bit (place_of Remote n) p.remote (with_bit (place_of Due n) p.due (with_bit (place_of Line n) p.line rows))

-- pin n of the new rows is p, and every other number is as it was
record IsWrittenAt (n : ℕ) (p : Pin) (old new : List ℕ) : Type 0 where
  line : has (place_of Line n) new ≡ p.line
  due : has (place_of Due n) new ≡ p.due
  remote : has (place_of Remote n) new ≡ p.remote
  others : (v : ℕ) → v ≢ place_of Line n → v ≢ place_of Due n → v ≢ place_of Remote n → has v new ≡ has v old

IsWrittenAt-with_signs : (n : ℕ) (p : Pin) (rows : List ℕ) → n < 32 → IsWrittenAt n p rows (with_signs n p rows)
IsWrittenAt-with_signs n p rows lt =
    let one = with_bit (place_of Line n) p.line rows in
    let two = with_bit (place_of Due n) p.due one in
    record {
      line =
          has-with_bit_other (place_of Line n) (place_of Remote n) p.remote two (λ e. omega arith)
          ∙ has-with_bit_other (place_of Line n) (place_of Due n) p.due one (λ e. omega arith)
          ∙ has-with_bit_itself (place_of Line n) p.line rows;
      due = has-with_bit_other (place_of Due n) (place_of Remote n) p.remote two (λ e. omega arith) ∙ has-with_bit_itself (place_of Due n) p.due one;
      remote = has-with_bit_itself (place_of Remote n) p.remote two;
      others = λ v a b c.
          has-with_bit_other v (place_of Remote n) p.remote two c
          ∙ has-with_bit_other v (place_of Due n) p.due one b
          ∙ has-with_bit_other v (place_of Line n) p.line rows a;
    }

-- another pin is as it was
pin_of-other : (n m : ℕ) (p : Pin) (old new : List ℕ) (e : Redirection) → n < 32 → m < 32 → m ≢ n → IsWrittenAt n p old new → pin_of new m e ≡ pin_of old m e
pin_of-other n m p old new e ln lm ne w =
    let line : has (place_of Line m) new ≡ has (place_of Line m) old = w.others (place_of Line m) (λ h. ne h) (λ h. omega arith) (λ h. omega arith) in
    let due : has (place_of Due m) new ≡ has (place_of Due m) old = w.others (place_of Due m) (λ h. omega arith) (λ h. ne (omega arith)) (λ h. omega arith) in
    let remote : has (place_of Remote m) new ≡ has (place_of Remote m) old = w.others (place_of Remote m) (λ h. omega arith) (λ h. omega arith) (λ h. ne (omega arith)) in
    cc

pins_from-later : (n m : ℕ) (p : Pin) (old new : List ℕ) (es : List Redirection) → n < m → m + length es ≤ 32 → IsWrittenAt n p old new → pins_from new m es ≡ pins_from old m es
pins_from-later n m p old new [] lt le w = refl
pins_from-later n m p old new (e ∷ es) lt le w =
    ap₂ ◌∷◌ (pin_of-other n m p old new e (omega arith) (omega arith) (λ h. omega arith) w) (pins_from-later n (m + 1) p old new es (omega arith) (omega arith) w)

pins_from-written : (m k : ℕ) (p : Pin) (old new : List ℕ) (es : List Redirection) → k < length es → m + length es ≤ 32 → IsWrittenAt (m + k) p old new → pins_from new m (set es k (record { low = p.low; high = p.high })) ≡ set (pins_from old m es) k p
pins_from-written m k p old new [] lt le w = absurd (omega arith)
pins_from-written m zero p old new (e ∷ es) lt le w =
    let here : m + 0 ≡ m = omega arith in
    let at : IsWrittenAt m p old new = subst (λ (n : ℕ). IsWrittenAt n p old new) here w in
    let pin : pin_of new m (record { low = p.low; high = p.high }) ≡ p = rw (at.line, at.due, at.remote) refl in
    ap₂ ◌∷◌ pin (pins_from-later m (m + 1) p old new es (omega arith) (omega arith) at)
pins_from-written m (suc k) p old new (e ∷ es) lt le w =
    let next : m + suc k ≡ m + 1 + k = omega arith in
    let at : IsWrittenAt (m + 1 + k) p old new = subst (λ (n : ℕ). IsWrittenAt n p old new) next w in
    ap₂ ◌∷◌ (pin_of-other (m + suc k) m p old new e (omega arith) (omega arith) (λ h. omega arith) w) (pins_from-written (m + 1) k p old new es (omega arith) (omega arith) at)

-- a pin is put into its place
pub pins_of-put : (n : ℕ) (p : Pin) (rows : List ℕ) (es : List Redirection) → n < length es → length es ≤ 32 → pins_of (with_signs n p rows) (set es n (record { low = p.low; high = p.high })) ≡ set (pins_of rows es) n p
unfolding pins_of
pins_of-put n p rows es lt le =
    let same : n ≡ 0 + n = omega arith in
    let w = IsWrittenAt-with_signs n p rows (omega arith) in
    pins_from-written 0 n p rows (with_signs n p rows) es lt (omega arith) (subst (λ (k : ℕ). IsWrittenAt k p rows (with_signs n p rows)) same w)
