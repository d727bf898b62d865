-- The files of a shelf in memory, which are kept in a map by text, as a finite map by the bytes of their names.
use Rattle.std.proofs.Common.{◌≡◌, ℕ, Bool, true, false, cond, List, [], ◌∷◌, map, Option, Some, String, refl, sym, ap, ◌∙◌}
use Rattle.std.specs.Prelude.{option_map, string_bytes, bytes_eq, string_cmp}
use Rattle.std.specs.Ordering.{nat_cmp, eq_by_cmp}
use Rattle.std.specs.Cmp.Lexicographic.{slice_cmp}
use Rattle.std.specs.Cmp.{eq_by_cmp_equiv}
use Rattle.std.specs.Map.{lookup}
use Rattle.std.specs.BTreeMap.{BTreeMap, is_at, get_by_text, Updates}
use Rattle.std.specs.FinMap.{get, insert, find, get-from_entries, get-insert, same_map, slice_cmp-IsAntisymmetric, nat_cmp-IsAntisymmetric}
use Rattle.std.specs.Cmp.Lexicographic.{nat_list_cmp_total}
use Rattle.mpt_base.specs.MemShelf.{files_by_name}
use Rattle.std.proofs.lemmas.Map.Text.{is_eq-slice_cmp, btree_map_updates_text}

find-files_by_name : {Y F : Type 0} (contents : F → List ℕ) (files : List (String Y × F)) (name : List ℕ)
    → find (slice_cmp nat_cmp) name (map (λ file. (string_bytes file.0, contents file.1)) files) ≡ option_map contents (lookup (is_at (λ k. slice_cmp nat_cmp name (string_bytes k))) files)
find-files_by_name contents [] name = refl
find-files_by_name contents (file ∷ files) name =
    elim (eq_by_cmp (slice_cmp nat_cmp) name (string_bytes file.0)) as (λ b. cond b (Some (contents file.1)) (find (slice_cmp nat_cmp) name (map (λ f. (string_bytes f.0, contents f.1)) files)) ≡ option_map contents (cond b (Some file.1) (lookup (is_at (λ k. slice_cmp nat_cmp name (string_bytes k))) files))) [
      | true ↦ refl
      | false ↦ find-files_by_name contents files name
    ]

-- a look-up by the bytes of a name finds what the map has there
pub get-files_by_name : {Y F : Type 0} (contents : F → List ℕ) (files : BTreeMap (String Y) F) (name : List ℕ)
    → get (files_by_name contents files.entries) name ≡ option_map contents (get_by_text files name)
get-files_by_name contents files name = get-from_entries nat_list_cmp_total _ name ∙ find-files_by_name contents files.entries name

updated : {F : Type 0} (contents : F → List ℕ) (b : Bool) (file : F) (before : Option F) → option_map contents (cond b (Some file) before) ≡ cond b (Some (contents file)) (option_map contents before)
updated contents true file before = refl
updated contents false file before = refl

-- a change of the map at one name is that change of the finite map
pub files_by_name-insert : {Y F : Type 0} (contents : F → List ℕ) (old new : BTreeMap (String Y) F) (key : String Y) (file : F)
    → Updates string_cmp old new key (Some file)
    → files_by_name contents new.entries ≡ insert (files_by_name contents old.entries) (string_bytes key) (contents file)
files_by_name-insert contents old new key file updates =
    same_map nat_list_cmp_total (slice_cmp-IsAntisymmetric nat_cmp-IsAntisymmetric) _ _ (λ name.
    get-files_by_name contents new name
    ∙ ap (option_map contents) (btree_map_updates_text (string_bytes key) old new (Some file) updates name)
    ∙ updated contents (bytes_eq (string_bytes key) name) file (get_by_text old name)
    ∙ ap (λ b. cond b (Some (contents file)) (option_map contents (get_by_text old name))) (sym (is_eq-slice_cmp (string_bytes key) name) ∙ (eq_by_cmp_equiv nat_list_cmp_total).symm (string_bytes key) name)
    ∙ ap (λ before. cond (eq_by_cmp (slice_cmp nat_cmp) name (string_bytes key)) (Some (contents file)) before) (sym (get-files_by_name contents old name))
    ∙ sym (get-insert nat_list_cmp_total (files_by_name contents old.entries) (string_bytes key) (contents file) name))
