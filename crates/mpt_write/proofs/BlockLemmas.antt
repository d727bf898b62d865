-- The base table with its checksum, and its header put together from five pieces.
use Rattle.std.proofs.Common.{◌≡◌, ℕ, ◌+◌, List, [], ◌∷◌, ◌++◌, length, drop, replicate, set, refl, sym, ap, ◌∙◌, arith, append_assoc, append-nil, drop-drop, length-append}
use Rattle.std.proofs.lemmas.List.{drop_at}
use Rattle.mpt_spec.proofs.ByteLemmas.{take-append_whole}
use Rattle.mpt_base.specs.Writing.{checksum_of, overlay}
use Rattle.mpt_spec.specs.declared.tables.Table.{Table}
use Rattle.std.specs.Prelude.{sum_by}
use Rattle.std.specs.List.{flat_map}
use Rattle.mpt_spec.specs.declared.entry.Base.{Base}
use Rattle.mpt_spec.specs.Entries.{base_length}
use Rattle.mpt_spec.specs.Image.{base_bytes, header_bytes, base_table_bytes}

-- the checksum in the place of the zero
pub set-base_table_bytes : (t : Table) (ext_part : List ℕ) (c d : ℕ) → set (base_table_bytes t c ext_part) 7 d ≡ base_table_bytes t d ext_part
set-base_table_bytes t ext_part c d = refl

pub sealed_base_table : (t : Table) (ext_part bytes : List ℕ) → bytes ≡ base_table_bytes t 0 ext_part
    → set bytes 7 (checksum_of (set bytes 7 0)) ≡ base_table_bytes t (checksum_of (base_table_bytes t 0 ext_part)) ext_part
sealed_base_table t ext_part bytes h =
    ap (λ xs. set xs 7 (checksum_of (set xs 7 0))) h
    ∙ ap (λ xs. set (base_table_bytes t 0 ext_part) 7 (checksum_of xs)) (set-base_table_bytes t ext_part 0 0)
    ∙ set-base_table_bytes t ext_part 0 (checksum_of (base_table_bytes t 0 ext_part))

-- the header and the entries behind it
pub opened : (t : Table) (ext_part out new : List ℕ) (entries : List Base) (n : ℕ) → entries ≡ t.base → out ≡ header_bytes t n (length ext_part) 0 (checksum_of ext_part)
    → new ≡ out ++ flat_map base_bytes entries → length new ≡ length out + sum_by base_length entries → n ≡ 44 + sum_by base_length t.base → new ≡ base_table_bytes t 0 ext_part
opened t ext_part out new entries n same header pushed size long =
    let sums : sum_by base_length entries ≡ length (flat_map base_bytes entries) = omega (arith, ap length pushed, length-append out (flat_map base_bytes entries), size) in
    let own : sum_by base_length t.base ≡ length (flat_map base_bytes t.base) = ap (sum_by base_length) (sym same) ∙ sums ∙ ap (λ (es : List Base). length (flat_map base_bytes es)) same in
    pushed
    ∙ (λ i. header i ++ flat_map base_bytes (same i))
    ∙ ap (λ k. header_bytes t k (length ext_part) 0 (checksum_of ext_part) ++ flat_map base_bytes t.base) (long ∙ ap (λ k. 44 + k) own)

-- a piece that is put behind what is done
put_next : (done rest left piece bytes : List ℕ) (at : ℕ) → bytes ≡ done ++ rest → length done ≡ at → drop (length piece) rest ≡ left → overlay bytes at piece ≡ done ++ piece ++ left
put_next done rest left piece bytes at is there more =
    ap (λ xs. overlay xs at piece) is
    ∙ ap (λ xs. xs ++ piece ++ drop (at + length piece) (done ++ rest)) (take-append_whole at done rest there)
    ∙ ap (λ xs. done ++ piece ++ xs) (sym (drop-drop (length piece) at (done ++ rest)) ∙ ap (λ xs. drop (length piece) xs) (drop_at done rest at there) ∙ more)

pub five_joined : (c w o p a b d e g : List ℕ) (r s : ℕ) → (c ++ (w ++ r ∷ s ∷ [])) ++ o ++ p ++ (a ++ (b ++ (d ++ e))) ++ g ++ [] ≡ c ++ (w ++ r ∷ s ∷ ((((((o ++ p) ++ a) ++ b) ++ d) ++ e) ++ g))
five_joined c w o p a b d e g r s = simp (append_assoc, append-nil) refl

-- the header in five pieces
pub header_put : (v w x y new : List ℕ) (front oem product back end : List ℕ) → length front ≡ 8 → length oem ≡ 8 → length product ≡ 12 → length back ≡ 12 → length end ≡ 4
    → v ≡ overlay (replicate 44 0) 0 front → w ≡ overlay v 8 oem → x ≡ overlay w 16 product → y ≡ overlay x 28 back → new ≡ overlay y 40 end
    → new ≡ front ++ oem ++ product ++ back ++ end ++ []
header_put v w x y new front oem product back end lf lo lp lb le hv hw hx hy hn =
    let first : v ≡ front ++ replicate 36 0 = hv ∙ put_next [] (replicate 44 0) (replicate 36 0) front (replicate 44 0) 0 refl refl (ap (λ n. drop n (replicate 44 0)) lf) in
    let second : w ≡ front ++ oem ++ replicate 28 0 = hw ∙ put_next front (replicate 36 0) (replicate 28 0) oem v 8 first lf (ap (λ n. drop n (replicate 36 0)) lo) in
    let long2 : length (front ++ oem) ≡ 16 = length-append front oem ∙ omega (arith, lf, lo) in
    let third : x ≡ front ++ oem ++ product ++ replicate 16 0 = hx ∙ put_next (front ++ oem) (replicate 28 0) (replicate 16 0) product w 16 second long2 (ap (λ n. drop n (replicate 28 0)) lp) in
    let long3 : length (front ++ oem ++ product) ≡ 28 = length-append (front ++ oem) product ∙ omega (arith, long2, lp) in
    let fourth : y ≡ front ++ oem ++ product ++ back ++ replicate 4 0 = hy ∙ put_next (front ++ oem ++ product) (replicate 16 0) (replicate 4 0) back x 28 third long3 (ap (λ n. drop n (replicate 16 0)) lb) in
    let long4 : length (front ++ oem ++ product ++ back) ≡ 40 = length-append (front ++ oem ++ product) back ∙ omega (arith, long3, lb) in
    hn ∙ put_next (front ++ oem ++ product ++ back) (replicate 4 0) [] end y 40 fourth long4 (ap (λ n. drop n (replicate 4 0)) le)
