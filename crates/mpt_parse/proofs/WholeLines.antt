-- Each line of a listing ends in a line feed, its only one; so a text has one first line.
use Rattle.std.proofs.Common.{◌≡◌, ℕ, zero, suc, ◌/◌, ◌%◌, Bool, true, false, cond, List, [], ◌∷◌, ◌++◌, map, sym, refl, ap, ◌∙◌, append_assoc, arith}
use Rattle.std.specs.Prelude.{◌≢◌, ◌==◌, ◌&&◌, not, codes}
use Rattle.std.specs.List.{AllByRecursion, flat_map}
use Rattle.std.proofs.lemmas.Bool.Decides.{nat_tests}
use Rattle.mpt_spec.specs.declared.entry.IntEntry.{IntEntry}
use Rattle.mpt_spec.specs.declared.entry.Base.{Base}
use Rattle.mpt_spec.specs.declared.entry.Base.TheVariants as base
use Rattle.mpt_spec.specs.declared.entry.Ext.{Ext}
use Rattle.mpt_spec.specs.declared.entry.Ext.TheVariants as ext
use Rattle.mpt_spec.specs.declared.tables.Table.{Table}
use Rattle.mpt_spec.specs.declared.tables.Body.{Body}
use Rattle.mpt_spec.specs.declared.tables.Body.TheVariants as body
use Rattle.mpt_spec.specs.declared.tables.Tables.{Tables}
use Rattle.mpt_spec.specs.Revision.{by_revision}
use Rattle.mpt_spec.proofs.RevisionLemmas.{by_revision-both}
use Rattle.mpt_listing.specs.Listing.{hex, hex_digit, hex_bytes, is_plain_byte, quoted_byte, quoted, rest_field, line, pointer_line, header_line, interrupt_line, base_line, ext_line}
use Rattle.mpt_parse.specs.Listings.{HasNoFeed, IsWholeLine, end_line, lines_behind, lines_of}

pub joined : (xs ys : List ℕ) → HasNoFeed xs → HasNoFeed ys → HasNoFeed (xs ++ ys)
joined [] ys p q = q
joined (x ∷ xs) ys p q = (p.0, joined xs ys p.1 q)

-- a text that a test looks through
abbrev pub has_no_feed : List ℕ → Bool
has_no_feed [] = true
has_no_feed (c ∷ cs) = not (c == 10) && has_no_feed cs

pub text_ok : (xs : List ℕ) → has_no_feed xs ≡ true → HasNoFeed xs
text_ok [] h = tt
text_ok (c ∷ cs) h = (one c (has_no_feed cs) h, text_ok cs (others c (has_no_feed cs) h))
  where
    one : (c : ℕ) (b : Bool) → (not (c == 10) && b) ≡ true → c ≢ 10
    one c b h e = grind (arith, nat_tests)

    others : (c : ℕ) (b : Bool) → (not (c == 10) && b) ≡ true → b ≡ true
    others c b h = grind (arith, nat_tests)

digit_ok : (n : ℕ) → hex_digit n ≢ 10
digit_ok n e = grind (arith, nat_tests)

pub hex_ok : (k n : ℕ) → HasNoFeed (hex k n)
unfolding hex
hex_ok zero n = tt
hex_ok (suc k) n = joined (hex k (n / 16)) (hex_digit (n % 16) ∷ []) (hex_ok k (n / 16)) (digit_ok (n % 16), tt)

each_ok : (show : ℕ → List ℕ) → ((b : ℕ) → HasNoFeed (show b)) → (bytes : List ℕ) → HasNoFeed (flat_map show bytes)
each_ok show ok [] = tt
each_ok show ok (b ∷ bytes) = joined (show b) (flat_map show bytes) (ok b) (each_ok show ok bytes)

bytes_ok : (bytes : List ℕ) → HasNoFeed (hex_bytes bytes)
unfolding hex_bytes
bytes_ok bytes = each_ok (hex 2) (hex_ok 2) bytes

quoted_byte_ok : (b : ℕ) → HasNoFeed (quoted_byte b)
quoted_byte_ok b = at (is_plain_byte b) refl
  where
    plain : (b : ℕ) → is_plain_byte b ≡ true → b ≢ 10
    plain b h e = grind (arith, nat_tests)

    at : (p : Bool) → is_plain_byte b ≡ p → HasNoFeed (cond p (b ∷ []) (92 ∷ 120 ∷ hex 2 b))
    at true h = (plain b h, tt)
    at false h = ((text_ok (92 ∷ []) refl).0, ((text_ok (120 ∷ []) refl).0, hex_ok 2 b))

quoted_ok : (bytes : List ℕ) → HasNoFeed (quoted bytes)
unfolding quoted
quoted_ok bytes = joined (34 ∷ flat_map quoted_byte bytes) (34 ∷ []) ((text_ok (34 ∷ []) refl).0, each_ok quoted_byte quoted_byte_ok bytes) (text_ok (34 ∷ []) refl)

rest_ok : (bytes : List ℕ) → HasNoFeed (rest_field bytes)
rest_ok [] = text_ok (codes "-") refl
rest_ok (b ∷ bytes) = bytes_ok (b ∷ bytes)

-- parts without line feeds make a whole line
pub whole : (parts : List (List ℕ)) → AllByRecursion HasNoFeed parts → IsWholeLine (line parts)
whole [] h = ([], refl, tt)
whole (p ∷ ps) h = let w = whole ps h.1 in (p ++ w.0, ap (λ x. p ++ x) w.1 ∙ sym (append_assoc p w.0 (10 ∷ [])), joined p w.0 h.0 w.2)

interrupt_whole : (word : List ℕ) → has_no_feed word ≡ true → (e : IntEntry) → IsWholeLine (interrupt_line word e)
interrupt_whole word h e =
    whole (word ∷ codes " kind " ∷ hex 2 e.kind ∷ codes " flags " ∷ hex 4 e.flags ∷ codes " bus " ∷ hex 2 e.bus ∷ codes " irq " ∷ hex 2 e.irq ∷ codes " dest " ∷ hex 2 e.dest ∷ codes " pin " ∷ hex 2 e.pin ∷ []) (
      text_ok word h,
      (
        text_ok (codes " kind ") refl,
        (
          hex_ok 2 e.kind,
          (
            text_ok (codes " flags ") refl,
            (
              hex_ok 4 e.flags,
              (
                text_ok (codes " bus ") refl,
                (
                  hex_ok 2 e.bus,
                  (
                    text_ok (codes " irq ") refl,
                    (
                      hex_ok 2 e.irq,
                      (text_ok (codes " dest ") refl, (hex_ok 2 e.dest, (text_ok (codes " pin ") refl, (hex_ok 2 e.pin, tt)))),
                    ),
                  ),
                ),
              ),
            ),
          ),
        ),
      ),
    )

base_whole : (e : Base) → IsWholeLine (base_line e)
base_whole (base.Processor e) =
    whole (codes "processor id " ∷ hex 2 e.apic ∷ codes " version " ∷ hex 2 e.version ∷ codes " flags " ∷ hex 2 e.flags ∷ codes " signature " ∷ hex 8 e.signature ∷ codes " features " ∷ hex 8 e.features ∷ codes " reserved " ∷ hex_bytes e.reserved ∷ []) (
      text_ok (codes "processor id ") refl,
      (
        hex_ok 2 e.apic,
        (
          text_ok (codes " version ") refl,
          (
            hex_ok 2 e.version,
            (
              text_ok (codes " flags ") refl,
              (
                hex_ok 2 e.flags,
                (
                  text_ok (codes " signature ") refl,
                  (
                    hex_ok 8 e.signature,
                    (text_ok (codes " features ") refl, (hex_ok 8 e.features, (text_ok (codes " reserved ") refl, (bytes_ok e.reserved, tt)))),
                  ),
                ),
              ),
            ),
          ),
        ),
      ),
    )
base_whole (base.Bus e) = whole (codes "bus id " ∷ hex 2 e.id ∷ codes " name " ∷ quoted e.name ∷ []) (text_ok (codes "bus id ") refl, (hex_ok 2 e.id, (text_ok (codes " name ") refl, (quoted_ok e.name, tt))))
base_whole (base.IoApic e) =
    whole (codes "ioapic id " ∷ hex 2 e.id ∷ codes " version " ∷ hex 2 e.version ∷ codes " flags " ∷ hex 2 e.flags ∷ codes " address " ∷ hex 8 e.address ∷ [])
    (text_ok (codes "ioapic id ") refl, (hex_ok 2 e.id, (text_ok (codes " version ") refl, (hex_ok 2 e.version, (text_ok (codes " flags ") refl, (hex_ok 2 e.flags, (text_ok (codes " address ") refl, (hex_ok 8 e.address, tt))))))))
base_whole (base.IoInt e) = interrupt_whole (codes "ioint") refl e
base_whole (base.LocalInt e) = interrupt_whole (codes "localint") refl e

ext_whole : (e : Ext) → IsWholeLine (ext_line e)
ext_whole (ext.Space e) =
    whole (codes "space bus " ∷ hex 2 e.bus ∷ codes " kind " ∷ hex 2 e.kind ∷ codes " base " ∷ hex 16 e.base ∷ codes " length " ∷ hex 16 e.length ∷ [])
    (text_ok (codes "space bus ") refl, (hex_ok 2 e.bus, (text_ok (codes " kind ") refl, (hex_ok 2 e.kind, (text_ok (codes " base ") refl, (hex_ok 16 e.base, (text_ok (codes " length ") refl, (hex_ok 16 e.length, tt))))))))
ext_whole (ext.Hierarchy e) =
    whole (codes "hierarchy bus " ∷ hex 2 e.bus ∷ codes " info " ∷ hex 2 e.info ∷ codes " parent " ∷ hex 2 e.parent ∷ codes " reserved " ∷ hex_bytes e.reserved ∷ [])
    (text_ok (codes "hierarchy bus ") refl, (hex_ok 2 e.bus, (text_ok (codes " info ") refl, (hex_ok 2 e.info, (text_ok (codes " parent ") refl, (hex_ok 2 e.parent, (text_ok (codes " reserved ") refl, (bytes_ok e.reserved, tt))))))))
ext_whole (ext.Modifier e) =
    whole (codes "modifier bus " ∷ hex 2 e.bus ∷ codes " flags " ∷ hex 2 e.flags ∷ codes " ranges " ∷ hex 8 e.ranges ∷ [])
    (text_ok (codes "modifier bus ") refl, (hex_ok 2 e.bus, (text_ok (codes " flags ") refl, (hex_ok 2 e.flags, (text_ok (codes " ranges ") refl, (hex_ok 8 e.ranges, tt))))))
ext_whole (ext.Opaque e) =
    whole (codes "opaque kind " ∷ hex 2 e.kind ∷ codes " rest " ∷ rest_field e.rest ∷ []) (text_ok (codes "opaque kind ") refl, (hex_ok 2 e.kind, (text_ok (codes " rest ") refl, (rest_ok e.rest, tt))))

pointer_whole : (t : Tables) → IsWholeLine (pointer_line t)
pointer_whole t =
    whole (codes "pointer at " ∷ hex 8 t.at ∷ codes " table " ∷ hex 8 t.pointer.address ∷ codes " revision " ∷ hex 2 t.pointer.revision ∷ codes " features " ∷ hex_bytes t.pointer.features ∷ [])
    (text_ok (codes "pointer at ") refl, (hex_ok 8 t.at, (text_ok (codes " table ") refl, (hex_ok 8 t.pointer.address, (text_ok (codes " revision ") refl, (hex_ok 2 t.pointer.revision, (text_ok (codes " features ") refl, (bytes_ok t.pointer.features, tt))))))))

header_whole : (t : Table) → IsWholeLine (header_line t)
header_whole t =
    let name : HasNoFeed (by_revision t.revision (codes " old ") (codes " reserved ")) = by_revision-both HasNoFeed t.revision (codes " old ") (codes " reserved ") (text_ok (codes " old ") refl) (text_ok (codes " reserved ") refl) in
    let field : HasNoFeed (by_revision t.revision (hex_bytes t.old) (hex 2 t.reserved)) = by_revision-both HasNoFeed t.revision (hex_bytes t.old) (hex 2 t.reserved) (bytes_ok t.old) (hex_ok 2 t.reserved) in
    whole (codes "header revision " ∷ hex 2 t.revision ∷ codes " oem " ∷ quoted t.oem ∷ codes " product " ∷ quoted t.product ∷ codes " oemtable " ∷ hex 8 t.oem_table ∷ codes " oemsize " ∷ hex 4 t.oem_size
    ∷ codes " local " ∷ hex 8 t.local_address ∷ by_revision t.revision (codes " old ") (codes " reserved ") ∷ by_revision t.revision (hex_bytes t.old) (hex 2 t.reserved) ∷ []) (
      text_ok (codes "header revision ") refl,
      (
        hex_ok 2 t.revision,
        (
          text_ok (codes " oem ") refl,
          (
            quoted_ok t.oem,
            (
              text_ok (codes " product ") refl,
              (
                quoted_ok t.product,
                (
                  text_ok (codes " oemtable ") refl,
                  (
                    hex_ok 8 t.oem_table,
                    (text_ok (codes " oemsize ") refl, (hex_ok 4 t.oem_size, (text_ok (codes " local ") refl, (hex_ok 8 t.local_address, (name, (field, tt)))))),
                  ),
                ),
              ),
            ),
          ),
        ),
      ),
    )

all_whole : {E : Type 0} (show : E → List ℕ) → ((e : E) → IsWholeLine (show e)) → (es : List E) (ls : List (List ℕ)) → AllByRecursion IsWholeLine ls → AllByRecursion IsWholeLine (map show es ++ ls)
all_whole {E} show ok [] ls h = h
all_whole {E} show ok (e ∷ es) ls h = (ok e, all_whole show ok es ls h)

end_whole : IsWholeLine end_line
end_whole = whole (codes "end" ∷ []) (text_ok (codes "end") refl, tt)

behind_whole : (b : Body) → AllByRecursion IsWholeLine (lines_behind b)
behind_whole (body.Default n) = (end_whole, tt)
behind_whole (body.Listed t) = (header_whole t, all_whole base_line base_whole t.base (map ext_line t.ext ++ end_line ∷ []) (all_whole ext_line ext_whole t.ext (end_line ∷ []) (end_whole, tt)))

pub lines_whole : (t : Tables) → AllByRecursion IsWholeLine (lines_of t)
lines_whole t = (whole (codes "mptable 1" ∷ []) (text_ok (codes "mptable 1") refl, tt), (pointer_whole t, behind_whole t.body))

-- the first whole line of a text is one
first_line : (f g x y : List ℕ) → HasNoFeed f → HasNoFeed g → f ++ 10 ∷ x ≡ g ++ 10 ∷ y → (f ≡ g) × (x ≡ y)
first_line [] [] x y p q h = (refl, cc)
first_line [] (d ∷ g) x y p q h = absurd (q.0 (cc))
first_line (c ∷ f) [] x y p q h = absurd (p.0 (cc))
first_line (c ∷ f) (d ∷ g) x y p q h =
    let tail : f ++ 10 ∷ x ≡ g ++ 10 ∷ y = cc in
    let rest = first_line f g x y p.1 q.1 tail in
    let head : c ≡ d = cc in
    ((λ i. head i ∷ rest.0 i), rest.1)

pub one_first_line : (k l x y : List ℕ) → IsWholeLine k → IsWholeLine l → k ++ x ≡ l ++ y → (k ≡ l) × (x ≡ y)
one_first_line k l x y (f, e, p) (g, h, q) s =
    let r = first_line f g x y p q (sym (append_assoc f (10 ∷ []) x) ∙ ap (λ (z : List ℕ). z ++ x) (sym e) ∙ s ∙ ap (λ (z : List ℕ). z ++ y) h ∙ append_assoc g (10 ∷ []) y) in
    (e ∙ ap (λ (z : List ℕ). z ++ 10 ∷ []) r.0 ∙ sym h, r.1)

pub no_empty_line : IsWholeLine [] → ⊥
no_empty_line ([], e, p) = absurd (cc (e))
no_empty_line (c ∷ f, e, p) = absurd (cc (e))
