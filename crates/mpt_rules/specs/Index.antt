-- What the rules look up: cited by private functions alone.
use Rattle.std.specs.Prelude.{◌≡◌, ◌==◌, ℕ, ◌+◌, ◌≤◌, ◌<◌, ◌⊎◌, Bool, true, false, if◌then◌else◌, List, length, take, filter, Option, Some, None, nat_lt, slice_get, slice_index, slice_index_or, MatchOption}
use Rattle.std.specs.Option.{option_or}
use Rattle.std.specs.BTreeMap as tree
use Rattle.std.specs.Ordering.{nat_cmp, ordering_then}
use Rattle.std.specs.declared.cmp.Ordering.{Ordering}
use Rattle.mpt_spec.specs.declared.entry.IntEntry.{IntEntry}
use Rattle.mpt_spec.specs.declared.entry.Base.{Base}
use Rattle.mpt_spec.specs.declared.entry.Base.TheVariants as base
use Rattle.mpt_spec.specs.declared.entry.Ext.{Ext}
use Rattle.mpt_spec.specs.declared.entry.Ext.TheVariants as ext
use Rattle.mpt_rules.specs.Places.{HoldsAt, IsFirstOf, FirstIs, nowhere}
use Rattle.mpt_rules.specs.Entries.{HasBootFlag, IsProcessorOf, IsIoApicOf, IsBusOf, is_bus, IsSource, IsOnPin, HasSameSense, IsSoundRange}
use Rattle.mpt_rules.specs.declared.ext_index.ExtIndex.{ExtIndex}
use Rattle.mpt_rules.specs.declared.ext_index.Range.{Range}
use Rattle.mpt_rules.specs.Rules.{IsParentOf}
use Rattle.mpt_rules.specs.declared.base_index.BaseIndex.{BaseIndex}

-- a first place, if it is before another
abbrev pub place_before : Option ℕ → ℕ → Option ℕ
place_before None i = None
place_before (Some j) i = if nat_lt j i then Some j else None

-- the other place of a rule that names none
abbrev pub alone : Bool → Option ℕ
alone b = if b then Some nowhere else None

-- whether there is no place
abbrev pub lacks : Option ℕ → Bool
lacks None = true
lacks (Some j) = false

-- by each of three numbers in turn
abbrev pub key_cmp : ℕ × ℕ × ℕ → ℕ × ℕ × ℕ → Ordering
key_cmp x y = ordering_then (ordering_then (nat_cmp x.0 y.0) (nat_cmp x.1 y.1)) (nat_cmp x.2 y.2)

-- a first place, before and after an entry at place i, of which it holds or not
abbrev pub Noted : Type 0 → Option ℕ → Option ℕ → ℕ → Type 0
Noted A old new i = (A × (new ≡ option_or old (Some i))) ⊎ ((A → ⊥) × (new ≡ old))

abbrev pub NotesEntry : {E : Type 0} → (ℕ → E → Type 0) → List (Option ℕ) → List (Option ℕ) → E → ℕ → Type 0
NotesEntry P old new e i = (q : ℕ) → Noted (P q e) (slice_index_or old q None) (slice_index_or new q None) i

abbrev pub NotesKeyed : {E : Type 0} → (ℕ × ℕ × ℕ → E → Type 0) → (ℕ × ℕ × ℕ → Option ℕ) → (ℕ × ℕ × ℕ → Option ℕ) → E → ℕ → Type 0
NotesKeyed P old new e i = (q : ℕ × ℕ × ℕ) → Noted (P q e) (old q) (new q) i

-- first places, after a number or a key was met at a place
abbrev pub NotesId : List (Option ℕ) → List (Option ℕ) → ℕ → ℕ → Type 0
NotesId old new id i = (q : ℕ) → slice_index_or new q None ≡ option_or (slice_index_or old q None) (if id == q then Some i else None)

abbrev pub NotesKey : (ℕ × ℕ × ℕ → Option ℕ) → (ℕ × ℕ × ℕ → Option ℕ) → ℕ × ℕ × ℕ → ℕ → Type 0
NotesKey old new key i = (q : ℕ × ℕ × ℕ) → new q ≡ option_or (old q) (if tree.is_at (key_cmp key) q then Some i else None)

-- the first places of each number, among the entries before a place
abbrev pub AreFirsts : {E : Type 0} → (ℕ → E → Type 0) → List E → ℕ → List (Option ℕ) → Type 0
AreFirsts P es i table = (q : ℕ) → FirstIs (P q) es i (slice_index_or table q None)

-- an I/O interrupt of another sense
abbrev pub DiffersFrom : IntEntry → Base → Type 0
DiffersFrom b (base.IoInt a) = ¬ HasSameSense a b
DiffersFrom b _ = ⊥

-- an I/O interrupt whose sense isn't that of the first at its pin
abbrev pub IsSecondSenseOf : List Base → IntEntry → Type 0
IsSecondSenseOf es b = (k : ℕ) × IsFirstOf (IsOnPin (b.dest, b.pin, 0)) es k × HoldsAt (DiffersFrom b) es k

abbrev pub IsSecondSense : List Base → Base → Type 0
IsSecondSense es (base.IoInt b) = IsSecondSenseOf es b
IsSecondSense es _ = ⊥

abbrev pub HasSecondSense : List Base → ℕ × ℕ × ℕ → Base → Type 0
HasSecondSense es key b = IsOnPin key b × IsSecondSense es b

-- how many bus entries stand before each of the first n places
pub record AreBusCounts (es : List Base) (n : ℕ) (counts : List ℕ) : Type 0 where
  pub count : length counts ≡ n
  pub each : (k : ℕ) → k < n → slice_index counts k ≡ length (filter is_bus (take k es))

-- what the rules look up among base entries
pub record IsBaseIndexOf (es : List Base) (x : BaseIndex) : Type 0 where
  pub small : length es ≤ 65535
  pub processors : AreFirsts IsProcessorOf es (length es) x.processors
  pub ios : AreFirsts IsIoApicOf es (length es) x.ios
  pub buses : AreFirsts IsBusOf es (length es) x.buses
  pub boot : FirstIs HasBootFlag es (length es) x.boot
  pub counts : AreBusCounts es (length es) x.bus_counts.items
  pub sources : (q : ℕ × ℕ × ℕ) → FirstIs (IsSource q) es (length es) (tree.get key_cmp x.sources q)
  pub pins : (q : ℕ × ℕ × ℕ) → FirstIs (IsOnPin q) es (length es) (tree.get key_cmp x.pins q)
  pub second_senses : (q : ℕ × ℕ × ℕ) → FirstIs (HasSecondSense es q) es (length es) (tree.get key_cmp x.second_senses q)

-- the range of an entry, if it can meet another
abbrev pub IsRangeOf : Ext → Option Range → Type 0
IsRangeOf (ext.Space e) (Some r) = IsSoundRange e × (r.kind ≡ e.kind) × (r.first ≡ e.base) × (r.last + 1 ≡ e.base + e.length)
IsRangeOf (ext.Space e) None = ¬ IsSoundRange e
IsRangeOf _ o = o ≡ None

-- a range and one that isn't none have a kind and an address in common
abbrev pub HasRangeMet : Range → Option Range → Type 0
HasRangeMet a None = ⊥
HasRangeMet a (Some b) = (a.kind ≡ b.kind) × (b.first ≤ a.last) × (a.first ≤ b.last)

-- the ranges of the first n entries
pub record AreRanges (es : List Ext) (n : ℕ) (ranges : List (Option Range)) : Type 0 where
  pub count : length ranges ≡ n
  pub each : (k : ℕ) (e : Ext) → k < n → slice_get es k ≡ Some e → IsRangeOf e (slice_index_or ranges k None)

-- the parent of a bus, or none
abbrev pub IsParent : List Ext → ℕ → Option ℕ → Type 0
IsParent es bus o = MatchOption o ((parent : ℕ) → ¬ IsParentOf es bus parent) (IsParentOf es bus)

abbrev pub parent_by : Ext → Option ℕ
parent_by (ext.Hierarchy e) = Some e.parent
parent_by _ = None

-- what the rules look up among extended entries
pub record IsExtIndexOf (es : List Ext) (x : ExtIndex) : Type 0 where
  pub small : length es ≤ 65535
  pub parents : (bus : ℕ) → bus < 256 → IsParent es bus (slice_index_or x.parents bus None)
  pub ranges : AreRanges es (length es) x.ranges.items
