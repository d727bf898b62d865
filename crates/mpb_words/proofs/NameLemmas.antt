-- The names of words, by their lengths.
use Rattle.std.proofs.Common.{◌≡◌, ◌≢◌, ◌==◌, ◌<◌, ◌≤◌, ℕ, suc, false, List, [], ◌∷◌, length, get_or, codes, None, refl, sym, ap, arith}
use Rattle.std.specs.Str.{bytes_eq}
use Rattle.std.proofs.lemmas.Bool.{and_right}
use Rattle.std.proofs.lemmas.Slice.Eq.{text_from_reads}
use Rattle.mpb_words.specs.Words.{cpu_name_of, device_name_of}

-- texts of other lengths differ
unequal : (t p : List ℕ) → length t ≢ length p → bytes_eq t p ≡ false
unequal [] [] differ = absurd (differ refl)
unequal [] (y ∷ ys) differ = refl
unequal (x ∷ xs) [] differ = refl
unequal (x ∷ xs) (y ∷ ys) differ = and_right (x == y) (bytes_eq xs ys) (unequal xs ys (λ e. differ (ap suc e)))

-- a name of a processor's word has three to six bytes
pub no_cpu_name : (t : List ℕ) → length t ≢ 3 → length t ≢ 4 → length t ≢ 5 → length t ≢ 6 → None ≡ cpu_name_of t
no_cpu_name t three four five six =
    rw (
      unequal t (codes "ipi") three,
      unequal t (codes "ipl") three,
      unequal t (codes "nmi") three,
      unequal t (codes "take") four,
      unequal t (codes "poll") four,
      unequal t (codes "eoi") three,
      unequal t (codes "tpr") three,
      unequal t (codes "ldr") three,
      unequal t (codes "dfr") three,
      unequal t (codes "iosel") five,
      unequal t (codes "iowin") five,
      unequal t (codes "ioread") six,
      unequal t (codes "pause") five,
    ) refl

-- and one of a device's word three to five
pub no_device_name : (t : List ℕ) → length t ≢ 3 → length t ≢ 4 → length t ≢ 5 → None ≡ device_name_of t
no_device_name t three four five = rw (unequal t (codes "pulse") five, unequal t (codes "high") four, unequal t (codes "low") three) refl

-- a text of so many bytes is its bytes
pub three_bytes : (t : List ℕ) → 3 ≤ length t → length t < 4 → get_or t 0 0 ∷ get_or t 1 0 ∷ get_or t 2 0 ∷ [] ≡ t
three_bytes t least below = sym (text_from_reads t (get_or t 0 0 ∷ get_or t 1 0 ∷ get_or t 2 0 ∷ []) (omega arith) (refl, (refl, (refl, tt))))

pub four_bytes : (t : List ℕ) → 4 ≤ length t → length t < 5 → get_or t 0 0 ∷ get_or t 1 0 ∷ get_or t 2 0 ∷ get_or t 3 0 ∷ [] ≡ t
four_bytes t least below = sym (text_from_reads t (get_or t 0 0 ∷ get_or t 1 0 ∷ get_or t 2 0 ∷ get_or t 3 0 ∷ []) (omega arith) (refl, (refl, (refl, (refl, tt)))))

pub five_bytes : (t : List ℕ) → 5 ≤ length t → length t < 6 → get_or t 0 0 ∷ get_or t 1 0 ∷ get_or t 2 0 ∷ get_or t 3 0 ∷ get_or t 4 0 ∷ [] ≡ t
five_bytes t least below = sym (text_from_reads t (get_or t 0 0 ∷ get_or t 1 0 ∷ get_or t 2 0 ∷ get_or t 3 0 ∷ get_or t 4 0 ∷ []) (omega arith) (refl, (refl, (refl, (refl, (refl, tt))))))

pub six_bytes : (t : List ℕ) → 6 ≤ length t → length t < 7 → get_or t 0 0 ∷ get_or t 1 0 ∷ get_or t 2 0 ∷ get_or t 3 0 ∷ get_or t 4 0 ∷ get_or t 5 0 ∷ [] ≡ t
six_bytes t least below = sym (text_from_reads t (get_or t 0 0 ∷ get_or t 1 0 ∷ get_or t 2 0 ∷ get_or t 3 0 ∷ get_or t 4 0 ∷ get_or t 5 0 ∷ []) (omega arith) (refl, (refl, (refl, (refl, (refl, (refl, tt)))))))
