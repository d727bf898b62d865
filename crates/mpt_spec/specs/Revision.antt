-- The revisions of the floating pointer and of the configuration table (MultiProcessor Specification 1.4, sections 4.1 and
-- 4.2): 4 for specification 1.4 and 1 for 1.1. How tables of revision 1 are read is this project's own profile: bytes 40 to 43
-- of such a header are kept and not interpreted, and no extended part is read.
--     IsKnownRevision r     it is one of the two
--     by_revision r a b     a at revision 1, b at any other
use Rattle.std.specs.Prelude.{◌≡◌, ◌==◌, ◌⊎◌, ℕ, if◌then◌else◌}

-- a revision that is read
abbrev pub IsKnownRevision : ℕ → Type 0
IsKnownRevision r = (r ≡ 1) ⊎ (r ≡ 4)

-- the first at revision 1, the second at any other
abbrev pub by_revision : {A : Type 0} → ℕ → A → A → A
by_revision r old new = if r == 1 then old else new
