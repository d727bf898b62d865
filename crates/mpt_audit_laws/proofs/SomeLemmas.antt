-- All tables have a list of findings: rule by rule, and place by place.
use Rattle.std.proofs.Common.{◌≡◌, ℕ, zero, suc, ◌+◌, ◌<◌, ◌≤◌, ◌⊎◌, List, [], ◌∷◌, ◌++◌, length, Some, get_or, refl, sym, subst, inl, inr, arith}
use Rattle.std.specs.Prelude.{slice_get}
use Rattle.std.specs.List.{Contains}
use Rattle.std.proofs.lemmas.Option.{slice_get-get_or}
use Rattle.std.proofs.lemmas.List.Elements.{Contains-push, Contains-push_cases}
use Rattle.mpt_laws.proofs.EntryJudgment.{Decided}
use Rattle.mpt_spec.specs.declared.pointer.Pointer.{Pointer}
use Rattle.mpt_spec.specs.declared.tables.Table.{Table}
use Rattle.mpt_spec.specs.declared.tables.Tables.{Tables}
use Rattle.mpt_spec.specs.declared.tables.Body.{Body}
use Rattle.mpt_spec.specs.declared.tables.Body.TheVariants as body
use Rattle.mpt_rules.specs.declared.rule.TableRule.TheVariants as on_table
use Rattle.mpt_rules.specs.declared.rule.Rule.{Rule}
use Rattle.mpt_rules.specs.declared.rule.Rule.TheVariants as rule
use Rattle.mpt_rules.specs.declared.rule.Finding.{Finding}
use Rattle.mpt_rules.specs.Places.{nowhere}
use Rattle.mpt_spec.specs.Canonical.{HasClearPointerBits}
use Rattle.mpt_rules.specs.Rules.{BreaksRule, IsPlaceOf}
use Rattle.mpt_audit.specs.Findings.{rules, IsTableFinding, IsDefaultFinding, IsFindingOf, ListsInOrder, AreFindingsOf}
use Rattle.mpt_audit.specs.Progress.{AreFindingsBefore}
use Rattle.mpt_audit.proofs.FindingLemmas.{finding_at, start, passed, found, next, broken_place, whole}
use Rattle.mpt_audit_laws.proofs.PlaceDecisions.{IsFound}
use Rattle.mpt_audit_laws.proofs.RuleDecisions.{clear_pointer_bits, rule_found}

-- a place above each at which the rule is asked
abbrev places_end : Table → Rule → ℕ
places_end t (rule.Table r) = 65536
places_end t (rule.Base r) = length t.base
places_end t (rule.Ext r) = length t.ext

below_end : (t : Table) (r : Rule) (i : ℕ) → IsPlaceOf t r i → i < places_end t r
below_end t (rule.Table r) i h = let here : i ≡ 65535 = h in omega (arith, here)
below_end t (rule.Base r) i h = h
below_end t (rule.Ext r) i h = h

-- there are findings so far
abbrev HaveFindingsBefore : Pointer → Table → ℕ → ℕ → Type 0
HaveFindingsBefore p t n i = (fs : List Finding) × AreFindingsBefore p t n i fs

module _ (p : Pointer) (t : Table) where
  one_place : (n i : ℕ) (r : Rule) → slice_get rules n ≡ Some r → IsFound (BreaksRule p t r i) → HaveFindingsBefore p t n i → HaveFindingsBefore p t n (i + 1)
  one_place n i r at (inl b) (fs, h) = (fs ++ finding_at n i b.0 ∷ [], found p t n i b.0 r fs at b.1 h)
  one_place n i r at (inr none) (fs, h) = (fs, passed p t n i (i + 1) r fs at (omega arith) (λ m j low high b. none j (here m j low high b)) h)
    where
      here : (m j : ℕ) → i ≤ m → m < i + 1 → BreaksRule p t r m j → BreaksRule p t r i j
      here m j low high b = let same : m ≡ i = omega (arith, low, high) in subst (λ (k : ℕ). BreaksRule p t r k j) same b

  places : (n : ℕ) (r : Rule) → slice_get rules n ≡ Some r → (to : ℕ) → HaveFindingsBefore p t n 0 → HaveFindingsBefore p t n to
  places n r at zero h = h
  places n r at (suc i) h = let e : i + 1 ≡ suc i = omega arith in subst (HaveFindingsBefore p t n) e (one_place n i r at (rule_found p t r i) (places n r at i h))

  one_rule : (n : ℕ) (r : Rule) → slice_get rules n ≡ Some r → HaveFindingsBefore p t n 0 → HaveFindingsBefore p t (n + 1) 0
  one_rule n r at h = let all = places n r at (places_end t r) h in (all.0, next p t n (places_end t r) r all.0 at (λ m j b. below_end t r m (broken_place p t r m j b)) all.1)

  all_rules : (n : ℕ) → n ≤ 24 → HaveFindingsBefore p t n 0
  all_rules zero l = ([], start p t)
  all_rules (suc n) l =
      let low : n < 24 = omega (arith, l) in
      let e : n + 1 ≡ suc n = omega arith in
      let r = get_or rules n (rule.Table on_table.NoBootProcessor) in
      let at : slice_get rules n ≡ Some r = slice_get-get_or rules n (rule.Table on_table.NoBootProcessor) low in
      subst (λ (k : ℕ). HaveFindingsBefore p t k 0) e (one_rule n r at (all_rules n (omega (arith, l))))

  table_findings : (fs : List Finding) × ListsInOrder (IsTableFinding p t) fs
  table_findings = let all = all_rules 24 (omega arith) in (all.0, whole p t all.0 all.1)

-- the one finding that a default configuration can have
abbrev pointer_finding : Finding
pointer_finding = record { rule = 15; entry = nowhere; other = nowhere }

default_findings : (p : Pointer) → Decided (HasClearPointerBits p) → (fs : List Finding) × ListsInOrder (IsDefaultFinding p) fs
default_findings p (inl clear) = ([], record { sound = λ f c. absurd (omega (arith, c.1)); complete = λ f is. absurd (is.0 clear); ascending = tt })
default_findings p (inr n) = (pointer_finding ∷ [], record { sound = λ f c. sound f (Contains-push_cases [] pointer_finding f c); complete = λ f is. complete f is; ascending = tt })
  where
    sound : (f : Finding) → Contains [] f ⊎ (pointer_finding ≡ f) → IsDefaultFinding p f
    sound f (inl c) = absurd (omega (arith, c.1))
    sound f (inr e) = subst (IsDefaultFinding p) e (n, refl, refl, refl)

    complete : (f : Finding) → IsDefaultFinding p f → Contains (pointer_finding ∷ []) f
    complete f is =
        let rule = sym is.1 in
        let entry = sym is.2 in
        let other = sym is.3 in
        let all : pointer_finding ≡ f = λ k. record { rule = rule k; entry = entry k; other = other k } in
        subst (Contains (pointer_finding ∷ [])) all (Contains-push [] pointer_finding)

body_findings : (p : Pointer) (b : Body) → (fs : List Finding) × ListsInOrder (IsFindingOf p b) fs
body_findings p (body.Default n) = default_findings p (clear_pointer_bits p)
body_findings p (body.Listed t) = table_findings p t

-- tables have findings
pub findings-some : (tables : Tables) → (fs : List Finding) × AreFindingsOf tables fs
findings-some tables = body_findings tables.pointer tables.body
