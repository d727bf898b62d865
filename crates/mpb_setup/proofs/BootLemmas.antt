-- The boot program: each op is one that a boot program may have, it is short, and it starts each other processor.
use Rattle.std.proofs.Common.{◌≡◌, ◌==◌, ℕ, ◌+◌, ◌*◌, ◌≤◌, Bool, true, false, not, cond, ◌&&◌, ◌||◌, List, [], ◌∷◌, ◌++◌, length, length-append, map, filter, count_by, None, nat_le, refl, arith}
use Rattle.std.specs.List.{AllByRecursion, flat_map}
use Rattle.std.proofs.lemmas.Bool.{eqb-false}
use Rattle.std.proofs.lemmas.List.Sums.{sum_by-append}
use Rattle.mpt_spec.specs.declared.entry.Processor.{Processor}
use Rattle.mpt_route.specs.declared.platform.Platform.{Platform}
use Rattle.mpt_route.specs.declared.route.Answer.{Answer}
use Rattle.mpt_route.specs.declared.route.Answer.TheVariants as answer
use Rattle.mpt_route.specs.Routes.{routes_of}
use Rattle.mpb_spec.specs.declared.agent.Op.{Op}
use Rattle.mpb_spec.specs.declared.agent.Op.TheVariants as op
use Rattle.mpb_spec.specs.Numbers.{has, AreBytes}
use Rattle.mpb_spec.specs.Configs.{IsOther, IsOpOn, IsAimed, IsAtPage, is_boot_op}
use Rattle.mpb_spec.specs.Room.{is_write, is_eoi}
use Rattle.mpb_setup.specs.Boot.{boot_id_of, is_enabled, other_processors, start_ops, row_ops, imcr_ops, boot_program_of}
use Rattle.mpb_setup.specs.Board.{enabled_ids, io_ids}
use Rattle.mpb_setup.specs.Faults.{least_double}
use Rattle.mpb_setup.proofs.ListLemmas.{all-append, all-flat_map, all-weaker, few-bytes}
use Rattle.mpb_setup.proofs.PinLemmas.{HasPlace, on_places, few_pins, rows_length, rows_writes, rows_ends}

-- an op of a boot program at the page, with n I/O APICs
pub record IsBootOp (n boot page_number : ℕ) (o : Op) : Type 0 where
  pub kind : is_boot_op o ≡ true
  pub place : IsOpOn n o
  pub target : IsAimed boot o
  pub page : IsAtPage page_number o

imcr_right : (n boot page : ℕ) (b : Bool) → AllByRecursion (IsBootOp n boot page) (imcr_ops b)
imcr_right n boot page true = (record { kind = refl; place = tt; target = tt; page = tt }, tt)
imcr_right n boot page false = tt

-- no target is 255 or the boot processor
others_aimed : (boot : ℕ) (ps : List Processor) → has 255 (map (λ e. e.apic) (filter is_enabled ps)) ≡ false → AllByRecursion (λ e. IsOther boot e.apic) (filter (λ e. is_enabled e && not (e.apic == boot)) ps)
others_aimed boot [] h = tt
others_aimed boot (e ∷ ps) h = go (is_enabled e) refl (e.apic == boot) refl h (λ k. others_aimed boot ps k)
  where
    go : (b : Bool) → is_enabled e ≡ b → (c : Bool) → (e.apic == boot) ≡ c → has 255 (map (λ x. x.apic) (cond b (e ∷ filter is_enabled ps) (filter is_enabled ps))) ≡ false → (has 255 (map (λ x. x.apic) (filter is_enabled ps)) ≡ false → AllByRecursion (λ x. IsOther boot x.apic) (filter (λ x. is_enabled x && not (x.apic == boot)) ps)) → AllByRecursion (λ x. IsOther boot x.apic) (cond (b && not c) (e ∷ filter (λ x. is_enabled x && not (x.apic == boot)) ps) (filter (λ x. is_enabled x && not (x.apic == boot)) ps))
    go false b c d h rest = rest h
    go true b true d h rest = rest (later (e.apic == 255) refl h)
      where
        later : (f : Bool) → (e.apic == 255) ≡ f → (f || has 255 (map (λ x. x.apic) (filter is_enabled ps))) ≡ false → has 255 (map (λ x. x.apic) (filter is_enabled ps)) ≡ false
        later true f h = cc
        later false f h = h
    go true b false d h rest = here (e.apic == 255) refl h
      where
        here : (f : Bool) → (e.apic == 255) ≡ f → (f || has 255 (map (λ x. x.apic) (filter is_enabled ps))) ≡ false → IsOther boot e.apic × AllByRecursion (λ x. IsOther boot x.apic) (filter (λ x. is_enabled x && not (x.apic == boot)) ps)
        here true f h = cc
        here false f h = ((eqb-false e.apic 255 f, eqb-false e.apic boot d), rest h)

start_right : (n boot page : ℕ) (e : Processor) → IsOther boot e.apic → AllByRecursion (IsBootOp n boot page) (start_ops page e)
start_right n boot page e h = go (nat_le 0x10 e.version)
  where
    pause : (t : ℕ) → IsBootOp n boot page (op.Pause t)
    pause t = record { kind = refl; place = tt; target = tt; page = tt }

    init : IsBootOp n boot page (op.Init e.apic)
    init = record { kind = refl; place = tt; target = h; page = tt }

    startup : IsBootOp n boot page (op.Startup e.apic page)
    startup = record { kind = refl; place = tt; target = h; page = refl }

    check : IsBootOp n boot page (op.Check e.apic)
    check = record { kind = refl; place = tt; target = h; page = tt }

    warm : IsBootOp n boot page (op.Warm page)
    warm = record { kind = refl; place = tt; target = tt; page = refl }

    go : (b : Bool) → AllByRecursion (IsBootOp n boot page) (cond b (op.Init e.apic ∷ op.Pause 10000 ∷ op.Startup e.apic page ∷ op.Pause 200 ∷ op.Startup e.apic page ∷ op.Pause 200 ∷ op.Check e.apic ∷ []) (op.Warm page ∷ op.Init e.apic ∷ op.Pause 10000 ∷ op.Check e.apic ∷ []))
    go true = (init, (pause 10000, (startup, (pause 200, (startup, (pause 200, (check, tt)))))))
    go false = (warm, (init, (pause 10000, (check, tt))))

row_right : (n boot page : ℕ) (a : Answer) → HasPlace n a → AllByRecursion (IsBootOp n boot page) (row_ops a)
row_right n boot page (answer.Unrouted e w) h = tt
row_right n boot page (answer.Routed r) h = (sel 17, (win r.high, (sel 16, (win r.low, tt))))
  where
    sel : (k : ℕ) → IsBootOp n boot page (op.IoSel r.io (k + 2 * r.pin))
    sel k = record { kind = refl; place = h.0; target = tt; page = tt }

    win : (v : ℕ) → IsBootOp n boot page (op.IoWin r.io v)
    win v = record { kind = refl; place = h.0; target = tt; page = tt }

pub boot_right : (p : Platform) (elcr page : ℕ) → has 255 (enabled_ids p) ≡ false → AllByRecursion (IsBootOp (length (io_ids p)) (boot_id_of p) page) (boot_program_of p (routes_of p elcr) page)
boot_right p elcr page narrow =
    let n = length (io_ids p) in
    let boot = boot_id_of p in
    let P = IsBootOp n boot page in
    all-append P (imcr_ops p.imcr ++ flat_map (start_ops page) (other_processors p)) (flat_map row_ops (routes_of p elcr))
    (all-append P (imcr_ops p.imcr) (flat_map (start_ops page) (other_processors p)) (imcr_right n boot page p.imcr)
    (all-flat_map P (start_ops page) (other_processors p) (all-weaker (λ e. IsOther boot e.apic) (λ e. AllByRecursion P (start_ops page e)) (other_processors p) (start_right n boot page) (others_aimed boot p.processors narrow))))
    (all-flat_map P row_ops (routes_of p elcr) (all-weaker (λ a. HasPlace n a × HasPlace 4 a) (λ a. AllByRecursion P (row_ops a)) (routes_of p elcr) (λ a h. row_right n boot page a h.0) (on_places p elcr)))

-- how long it is
imcr_short : (b : Bool) → length (imcr_ops b) ≤ 1
imcr_short true = omega arith
imcr_short false = omega arith

starts_short : (page : ℕ) (es : List Processor) → length (flat_map (start_ops page) es) ≤ 7 * length es
starts_short page [] = omega arith
starts_short page (e ∷ es) = omega (arith, length-append (start_ops page e) (flat_map (start_ops page) es), one (nat_le 0x10 e.version), starts_short page es)
  where
    one : (b : Bool) → length (cond b (op.Init e.apic ∷ op.Pause 10000 ∷ op.Startup e.apic page ∷ op.Pause 200 ∷ op.Startup e.apic page ∷ op.Pause 200 ∷ op.Check e.apic ∷ []) (op.Warm page ∷ op.Init e.apic ∷ op.Pause 10000 ∷ op.Check e.apic ∷ [])) ≤ 7
    one true = omega arith
    one false = omega arith

others_few : (boot : ℕ) (ps : List Processor) → length (filter (λ e. is_enabled e && not (e.apic == boot)) ps) ≤ length (map (λ e. e.apic) (filter is_enabled ps))
others_few boot [] = omega arith
others_few boot (e ∷ ps) = go (is_enabled e) (e.apic == boot) (others_few boot ps)
  where
    go : (b c : Bool) → length (filter (λ x. is_enabled x && not (x.apic == boot)) ps) ≤ length (map (λ x. x.apic) (filter is_enabled ps)) → length (cond (b && not c) (e ∷ filter (λ x. is_enabled x && not (x.apic == boot)) ps) (filter (λ x. is_enabled x && not (x.apic == boot)) ps)) ≤ length (map (λ x. x.apic) (cond b (e ∷ filter is_enabled ps) (filter is_enabled ps)))
    go true true h = omega (arith, h)
    go true false h = omega (arith, h)
    go false c h = h

long : (xs ys zs : List Op) → length (xs ++ ys ++ zs) ≡ length xs + length ys + length zs
long xs ys zs = omega (arith, length-append (xs ++ ys) zs, length-append xs ys)

pub boot_short : (p : Platform) (elcr page : ℕ) → AreBytes (enabled_ids p) → least_double (enabled_ids p) ≡ None → length (boot_program_of p (routes_of p elcr) page) ≤ 2177
boot_short p elcr page bytes once =
    let starts = flat_map (start_ops page) (other_processors p) in
    let rows = flat_map row_ops (routes_of p elcr) in
    let whole : length (boot_program_of p (routes_of p elcr) page) ≡ length (imcr_ops p.imcr) + length starts + length rows = long (imcr_ops p.imcr) starts rows in
    omega (
      arith,
      whole,
      imcr_short p.imcr,
      starts_short page (other_processors p),
      others_few (boot_id_of p) p.processors,
      few-bytes (enabled_ids p) bytes once,
      rows_length (routes_of p elcr),
      few_pins p elcr,
    )

-- how often it writes, and that it ends no interrupt
counted : (f : Op → Bool) (xs ys : List Op) → count_by f (xs ++ ys) ≡ count_by f xs + count_by f ys
counted f xs ys = sum_by-append (λ o. cond {A = ℕ} (f o) 1 0) xs ys

imcr_quiet : (b : Bool) → (count_by is_write (imcr_ops b) ≡ 0) × (count_by is_eoi (imcr_ops b) ≡ 0)
imcr_quiet true = (refl, refl)
imcr_quiet false = (refl, refl)

abbrev ops_of : ℕ → Processor → Bool → List Op
ops_of page e b = cond b (op.Init e.apic ∷ op.Pause 10000 ∷ op.Startup e.apic page ∷ op.Pause 200 ∷ op.Startup e.apic page ∷ op.Pause 200 ∷ op.Check e.apic ∷ []) (op.Warm page ∷ op.Init e.apic ∷ op.Pause 10000 ∷ op.Check e.apic ∷ [])

starts_quiet : (page : ℕ) (es : List Processor) → (count_by is_write (flat_map (start_ops page) es) ≡ 0) × (count_by is_eoi (flat_map (start_ops page) es) ≡ 0)
starts_quiet page [] = (refl, refl)
starts_quiet page (e ∷ es) =
    let rest = starts_quiet page es in
    let here = one (nat_le 0x10 e.version) in
    (omega (arith, counted is_write (start_ops page e) (flat_map (start_ops page) es), here.0, rest.0), omega (arith, counted is_eoi (start_ops page e) (flat_map (start_ops page) es), here.1, rest.1))
  where
    one : (b : Bool) → (count_by is_write (ops_of page e b) ≡ 0) × (count_by is_eoi (ops_of page e b) ≡ 0)
    one true = (refl, refl)
    one false = (refl, refl)

in_three : (f : Op → Bool) (xs ys zs : List Op) → count_by f (xs ++ ys ++ zs) ≡ count_by f xs + count_by f ys + count_by f zs
in_three f xs ys zs = omega (arith, counted f (xs ++ ys) zs, counted f xs ys)

pub boot_writes : (p : Platform) (elcr page : ℕ) → count_by is_write (boot_program_of p (routes_of p elcr) page) ≤ 192
boot_writes p elcr page =
    let starts = flat_map (start_ops page) (other_processors p) in
    let rows = flat_map row_ops (routes_of p elcr) in
    let whole : count_by is_write (boot_program_of p (routes_of p elcr) page) ≡ count_by is_write (imcr_ops p.imcr) + count_by is_write starts + count_by is_write rows = in_three is_write (imcr_ops p.imcr) starts rows in
    omega (arith, whole, (imcr_quiet p.imcr).0, (starts_quiet page (other_processors p)).0, rows_writes (routes_of p elcr), few_pins p elcr)

pub boot_ends : (p : Platform) (elcr page : ℕ) → count_by is_eoi (boot_program_of p (routes_of p elcr) page) ≡ 0
boot_ends p elcr page =
    let starts = flat_map (start_ops page) (other_processors p) in
    let rows = flat_map row_ops (routes_of p elcr) in
    let whole : count_by is_eoi (boot_program_of p (routes_of p elcr) page) ≡ count_by is_eoi (imcr_ops p.imcr) + count_by is_eoi starts + count_by is_eoi rows = in_three is_eoi (imcr_ops p.imcr) starts rows in
    omega (arith, whole, (imcr_quiet p.imcr).1, (starts_quiet page (other_processors p)).1, rows_ends (routes_of p elcr))
