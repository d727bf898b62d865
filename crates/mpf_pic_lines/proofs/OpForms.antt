-- The line of a call is read exactly.
use Rattle.std.proofs.Common.{◌≡◌, ◌≢◌, ◌==◌, ℕ, zero, suc, ◌+◌, ◌-◌, ◌^◌, ◌<◌, ◌≤◌, Bool, true, false, cond, not, ◌&&◌, nat_lt, List, [], ◌∷◌, ◌++◌, sym, refl, ap, ◌∙◌, inl, inr, ◌⊎◌, arith, subst}
use Rattle.std.specs.Prelude.{Option, Some, None, codes, decimal, ◌%◌}
use Rattle.std.specs.Fmt.{digits}
use Rattle.std.proofs.lemmas.Fmt.{decimal_digit}
use Rattle.std.proofs.lemmas.Bool.{eqb-true, ne_eqb, eq-eqb, lt-ltb, ltb-true}
use Rattle.mpt_listing.specs.Listing.{hex}
use Rattle.mpt_line.specs.Reading.{◌>>=◌, text_in, digit_in}
use Rattle.mpt_line.proofs.Exact.{bind_some, some_is, IsExact, after-exact, both-exact, ended-exact, checked-exact, either-exact, value-exact}
use Rattle.mpf_pair.specs.declared.port.Port.{Port}
use Rattle.mpf_pair.specs.declared.port.Port.TheVariants as port
use Rattle.mpf_pic_lines.specs.declared.op.PicOp.{PicOp}
use Rattle.mpf_pic_lines.specs.declared.op.PicOp.TheVariants.{Put, Get, Imcr, Up, Down, Ack}
use Rattle.mpf_pic_lines.specs.Lines.{port_number, op_line, IsDeviceLine, IsImcrPort, IsRightOp}
use Rattle.mpf_pic_lines.specs.Forms.{port_of, put_of, out_of, out_in, get_of, get_in, way_in, drive_of, is_low, low_irq_in, high_drive_of, high_irq_in, op_in}
use Rattle.mpf_pic_lines.proofs.Parts.{byte-exact, digit-exact, naming-exact, saying-exact, way_text, way-exact, either_way}

-- the number of a port names it
port_again : (p : Port) → port_of (port_number p) ≡ Some p
port_again port.Master = refl
port_again port.MasterData = refl
port_again port.Slave = refl
port_again port.SlaveData = refl

port_takes : (n : ℕ) (p : Port) → port_of n ≡ Some p → n ≡ port_number p
port_takes n p h = one (n == 0x20) refl (n == 0x21) refl (n == 0xA0) refl (n == 0xA1) refl h where
  one : (a : Bool) → (n == 0x20) ≡ a → (b : Bool) → (n == 0x21) ≡ b → (c : Bool) → (n == 0xA0) ≡ c → (d : Bool) → (n == 0xA1) ≡ d
      → cond a (Some port.Master) (cond b (Some port.MasterData) (cond c (Some port.Slave) (cond d (Some port.SlaveData) None))) ≡ Some p → n ≡ port_number p
  one true ea b eb c ec d ed h = eqb-true n 0x20 ea ∙ ap port_number (some_is port.Master p h)
  one false ea true eb c ec d ed h = eqb-true n 0x21 eb ∙ ap port_number (some_is port.MasterData p h)
  one false ea false eb true ec d ed h = eqb-true n 0xA0 ec ∙ ap port_number (some_is port.Slave p h)
  one false ea false eb false ec true ed h = eqb-true n 0xA1 ed ∙ ap port_number (some_is port.SlaveData p h)
  one false ea false eb false ec false ed h = absurd (cc)

port_byte : (p : Port) → port_number p < 16 ^ 2
port_byte port.Master = omega arith
port_byte port.MasterData = omega arith
port_byte port.Slave = omega arith
port_byte port.SlaveData = omega arith

-- a write
abbrev IsOut : PicOp → Type 0
IsOut (Put p v) = v < 2 ^ 8
IsOut (Imcr p v) = IsImcrPort p × (v < 2 ^ 8)
IsOut (Get p) = ⊥
IsOut (Up n) = ⊥
IsOut (Down n) = ⊥
IsOut Ack = ⊥

abbrev out_text : ℕ × ℕ → List ℕ
out_text x = codes "out " ++ (hex 2 x.0 ++ (codes " " ++ (hex 2 x.1 ++ 10 ∷ [])))

abbrev out_back : PicOp → ℕ × ℕ
out_back (Put p v) = (port_number p, v)
out_back (Imcr p v) = (p, v)
out_back (Get p) = (0, 0)
out_back (Up n) = (0, 0)
out_back (Down n) = (0, 0)
out_back Ack = (0, 0)

out_from : (op : PicOp) → IsOut op → (out_of (out_back op) ≡ Some op) × ((out_back op).0 < 16 ^ 2) × ((out_back op).1 < 16 ^ 2) × (op_line op ≡ out_text (out_back op))
out_from (Put p v) w = (ap (λ (o : Option Port). put_of o (port_number p) v) (port_again p), port_byte p, w, refl)
out_from (Imcr p v) (inl e, w) = (ap (λ (n : ℕ). out_of (n, v)) e ∙ ap (λ (n : ℕ). Some (Imcr n v)) (sym e), omega arith, w, refl)
out_from (Imcr p v) (inr e, w) = (ap (λ (n : ℕ). out_of (n, v)) e ∙ ap (λ (n : ℕ). Some (Imcr n v)) (sym e), omega arith, w, refl)
out_from (Get p) w = absurd w
out_from (Up n) w = absurd w
out_from (Down n) w = absurd w
out_from Ack w = absurd w

out_to : (x : ℕ × ℕ) (op : PicOp) → x.0 < 16 ^ 2 → x.1 < 16 ^ 2 → out_of x ≡ Some op → IsOut op × (op_line op ≡ out_text x)
out_to x op a b h = go (port_of x.0) refl h where
  named : (op2 : PicOp) → IsOut op2 × (op_line op2 ≡ out_text x) → Some op2 ≡ Some op → IsOut op × (op_line op ≡ out_text x)
  named op2 k e = subst (λ (y : PicOp). IsOut y × (op_line y ≡ out_text x)) (some_is op2 op e) k

  imcr : (c : Bool) → (x.0 == 0x22) ≡ c → (d : Bool) → (x.0 == 0x23) ≡ d → cond c (Some (Imcr x.0 x.1)) (cond d (Some (Imcr x.0 x.1)) None) ≡ Some op → IsOut op × (op_line op ≡ out_text x)
  imcr true ec d ed e = named (Imcr x.0 x.1) ((inl (eqb-true x.0 0x22 ec), b), refl) e
  imcr false ec true ed e = named (Imcr x.0 x.1) ((inr (eqb-true x.0 0x23 ed), b), refl) e
  imcr false ec false ed e = absurd (cc)

  go : (o : Option Port) → port_of x.0 ≡ o → put_of o x.0 x.1 ≡ Some op → IsOut op × (op_line op ≡ out_text x)
  go (Some p) e k = named (Put p x.1) (b, ap (λ (n : ℕ). out_text (n, x.1)) (sym (port_takes x.0 p e))) k
  go None e k = imcr (x.0 == 0x22) refl (x.0 == 0x23) refl k

out-exact : IsExact op_line IsOut out_in
unfolding out_in
out-exact =
    naming-exact (after-exact (both-exact byte-exact (after-exact (ended-exact byte-exact) (codes " "))) (codes "out ")) op_line IsOut out_of out_back
    (λ op w. let k = out_from op w in (k.0, (k.1, k.2), k.3))
    (λ x op v h. out_to x op v.0 v.1 h)

-- a read
abbrev IsGet : PicOp → Type 0
IsGet (Get p) = Unit {0}
IsGet (Put p v) = ⊥
IsGet (Imcr p v) = ⊥
IsGet (Up n) = ⊥
IsGet (Down n) = ⊥
IsGet Ack = ⊥

abbrev get_text : ℕ → List ℕ
get_text n = codes "in " ++ (hex 2 n ++ 10 ∷ [])

abbrev get_back : PicOp → ℕ
get_back (Get p) = port_number p
get_back (Put p v) = 0
get_back (Imcr p v) = 0
get_back (Up n) = 0
get_back (Down n) = 0
get_back Ack = 0

get_from : (op : PicOp) → IsGet op → (get_of (get_back op) ≡ Some op) × (get_back op < 16 ^ 2) × (op_line op ≡ get_text (get_back op))
get_from (Get p) w = (ap (λ (o : Option Port). o >>= λ q. Some (Get q)) (port_again p), port_byte p, refl)
get_from (Put p v) w = absurd w
get_from (Imcr p v) w = absurd w
get_from (Up n) w = absurd w
get_from (Down n) w = absurd w
get_from Ack w = absurd w

get_to : (n : ℕ) (op : PicOp) → get_of n ≡ Some op → IsGet op × (op_line op ≡ get_text n)
get_to n op h =
    let k = bind_some (port_of n) (λ q. Some (Get q)) op h in
    let here : IsGet (Get k.0) × (op_line (Get k.0) ≡ get_text n) = (tt, ap get_text (sym (port_takes n k.0 k.1))) in
    subst (λ (y : PicOp). IsGet y × (op_line y ≡ get_text n)) (some_is (Get k.0) op k.2) here

get-exact : IsExact op_line IsGet get_in
unfolding get_in
get-exact =
    naming-exact (after-exact (ended-exact byte-exact) (codes "in ")) op_line IsGet get_of get_back
    (λ op w. get_from op w)
    (λ n op v h. get_to n op h)

-- a line of one digit that is driven
abbrev IsLowIrq : PicOp → Type 0
IsLowIrq (Up n) = (n < 10) × (n ≢ 2)
IsLowIrq (Down n) = (n < 10) × (n ≢ 2)
IsLowIrq (Put p v) = ⊥
IsLowIrq (Imcr p v) = ⊥
IsLowIrq (Get p) = ⊥
IsLowIrq Ack = ⊥

abbrev irq_back : PicOp → ℕ × Bool
irq_back (Up n) = (n, true)
irq_back (Down n) = (n, false)
irq_back (Put p v) = (0, true)
irq_back (Imcr p v) = (0, true)
irq_back (Get p) = (0, true)
irq_back Ack = (0, true)

abbrev low_text : ℕ × Bool → List ℕ
low_text x = codes "irq " ++ (hex 1 x.0 ++ way_text x.1)

-- a number of one digit
low_decimal : (n : ℕ) → n < 10 → decimal n ≡ hex 1 n
unfolding hex
low_decimal n lt = decimal_digit n lt ∙ sym (rw (small n (omega arith), lt-ltb n 10 lt) refl) where
  small : (n : ℕ) → n < 16 → n % 16 ≡ n
  small n lt = omega arith

is_low_true : (n : ℕ) → n < 10 → n ≢ 2 → is_low n ≡ true
is_low_true n lt ne = rw (lt-ltb n 10 lt, ne_eqb n 2 ne) refl

is_low_takes : (n : ℕ) → is_low n ≡ true → (n < 10) × (n ≢ 2)
is_low_takes n h = go (nat_lt n 10) refl (n == 2) refl h where
  go : (a : Bool) → nat_lt n 10 ≡ a → (b : Bool) → (n == 2) ≡ b → (a && not b) ≡ true → (n < 10) × (n ≢ 2)
  go true ea false eb h = (ltb-true n 10 ea, λ e. let yes = eq-eqb n 2 e in cc)
  go true ea true eb h = absurd (cc)
  go false ea b eb h = absurd (cc)

irq_line : ℕ × Bool → List ℕ
irq_line x = codes "irq " ++ (decimal x.0 ++ way_text x.1)

drive_line : (n : ℕ) (b : Bool) (op : PicOp) → drive_of (n, b) ≡ Some op → op_line op ≡ codes "irq " ++ (decimal n ++ way_text b)
drive_line n true op h = ap op_line (sym (some_is (Up n) op h))
drive_line n false op h = ap op_line (sym (some_is (Down n) op h))

low_from : (op : PicOp) → IsLowIrq op → (drive_of (irq_back op) ≡ Some op) × (((irq_back op).0 < 16 ^ 1) × (is_low (irq_back op).0 ≡ true)) × (op_line op ≡ low_text (irq_back op))
low_from (Up n) w = (refl, (omega (arith, w.0), is_low_true n w.0 w.1), ap (λ (l : List ℕ). codes "irq " ++ (l ++ way_text true)) (low_decimal n w.0))
low_from (Down n) w = (refl, (omega (arith, w.0), is_low_true n w.0 w.1), ap (λ (l : List ℕ). codes "irq " ++ (l ++ way_text false)) (low_decimal n w.0))
low_from (Put p v) w = absurd w
low_from (Imcr p v) w = absurd w
low_from (Get p) w = absurd w
low_from Ack w = absurd w

low_is : (n : ℕ) (b : Bool) (op : PicOp) → n < 10 → n ≢ 2 → drive_of (n, b) ≡ Some op → IsLowIrq op
low_is n true op lt ne h = subst IsLowIrq (some_is (Up n) op h) (lt, ne)
low_is n false op lt ne h = subst IsLowIrq (some_is (Down n) op h) (lt, ne)

low_to : (x : ℕ × Bool) (op : PicOp) → is_low x.0 ≡ true → drive_of x ≡ Some op → IsLowIrq op × (op_line op ≡ low_text x)
low_to x op low h =
    let k = is_low_takes x.0 low in
    (low_is x.0 x.1 op k.0 k.1 h, drive_line x.0 x.1 op h ∙ ap (λ (l : List ℕ). codes "irq " ++ (l ++ way_text x.1)) (low_decimal x.0 k.0))

low-exact : IsExact op_line IsLowIrq low_irq_in
unfolding low_irq_in
low-exact =
    naming-exact (after-exact (both-exact (checked-exact digit-exact is_low) way-exact) (codes "irq ")) op_line IsLowIrq drive_of irq_back
    (λ op w. let k = low_from op w in (k.0, (k.1, either_way (irq_back op).1), k.2))
    (λ x op v h. low_to x op v.0.1 h)

-- one of two digits
abbrev IsHighIrq : PicOp → Type 0
IsHighIrq (Up n) = (10 ≤ n) × (n < 16)
IsHighIrq (Down n) = (10 ≤ n) × (n < 16)
IsHighIrq (Put p v) = ⊥
IsHighIrq (Imcr p v) = ⊥
IsHighIrq (Get p) = ⊥
IsHighIrq Ack = ⊥

abbrev high_back : PicOp → ℕ × Bool
high_back op = ((irq_back op).0 - 10, (irq_back op).1)

abbrev high_text : ℕ × Bool → List ℕ
high_text x = codes "irq 1" ++ (hex 1 x.0 ++ way_text x.1)

high_decimal : (n : ℕ) → n < 6 → decimal (10 + n) ≡ codes "1" ++ hex 1 n
unfolding hex digits
high_decimal zero lt = refl
high_decimal (suc zero) lt = refl
high_decimal (suc (suc zero)) lt = refl
high_decimal (suc (suc (suc zero))) lt = refl
high_decimal (suc (suc (suc (suc zero)))) lt = refl
high_decimal (suc (suc (suc (suc (suc zero))))) lt = refl
high_decimal (suc (suc (suc (suc (suc (suc n)))))) lt = absurd (omega arith)

high_from : (op : PicOp) → IsHighIrq op → (high_drive_of (high_back op) ≡ Some op) × (((high_back op).0 < 16 ^ 1) × (nat_lt (high_back op).0 6 ≡ true)) × (op_line op ≡ high_text (high_back op))
high_from (Up n) w =
    let same : 10 + (n - 10) ≡ n = omega (arith, w.0) in
    let below : n - 10 < 6 = omega (arith, w.0, w.1) in
    (ap (λ (m : ℕ). Some (Up m)) same, (omega arith, lt-ltb (n - 10) 6 below), ap (λ (m : ℕ). codes "irq " ++ (decimal m ++ way_text true)) (sym same) ∙ ap (λ (l : List ℕ). codes "irq " ++ (l ++ way_text true)) (high_decimal (n - 10) below))
high_from (Down n) w =
    let same : 10 + (n - 10) ≡ n = omega (arith, w.0) in
    let below : n - 10 < 6 = omega (arith, w.0, w.1) in
    (ap (λ (m : ℕ). Some (Down m)) same, (omega arith, lt-ltb (n - 10) 6 below), ap (λ (m : ℕ). codes "irq " ++ (decimal m ++ way_text false)) (sym same) ∙ ap (λ (l : List ℕ). codes "irq " ++ (l ++ way_text false)) (high_decimal (n - 10) below))
high_from (Put p v) w = absurd w
high_from (Imcr p v) w = absurd w
high_from (Get p) w = absurd w
high_from Ack w = absurd w

high_is : (n : ℕ) (b : Bool) (op : PicOp) → 10 ≤ n → n < 16 → drive_of (n, b) ≡ Some op → IsHighIrq op
high_is n true op low lt h = subst IsHighIrq (some_is (Up n) op h) (low, lt)
high_is n false op low lt h = subst IsHighIrq (some_is (Down n) op h) (low, lt)

high_to : (x : ℕ × Bool) (op : PicOp) → nat_lt x.0 6 ≡ true → high_drive_of x ≡ Some op → IsHighIrq op × (op_line op ≡ high_text x)
high_to x op low h =
    let below : x.0 < 6 = ltb-true x.0 6 low in
    (high_is (10 + x.0) x.1 op (omega arith) (omega arith) h, drive_line (10 + x.0) x.1 op h ∙ ap (λ (l : List ℕ). codes "irq " ++ (l ++ way_text x.1)) (high_decimal x.0 below))

high-exact : IsExact op_line IsHighIrq high_irq_in
unfolding high_irq_in
high-exact =
    naming-exact (after-exact (both-exact (checked-exact digit-exact (λ n. nat_lt n 6)) way-exact) (codes "irq 1")) op_line IsHighIrq high_drive_of high_back
    (λ op w. let k = high_from op w in (k.0, (k.1, either_way (irq_back op).1), k.2))
    (λ x op v h. high_to x op v.0.1 h)

-- a reader refuses the lines of the forms behind its own
no_high : (op : PicOp) (rest : List ℕ) → op ≡ Ack → high_irq_in (op_line op ++ rest) ≡ None
unfolding high_irq_in text_in
no_high op rest e = ap (λ (x : PicOp). high_irq_in (op_line x ++ rest)) e

abbrev HighCase : PicOp → Type 0
HighCase op = IsHighIrq op ⊎ (op ≡ Ack)

high_irq_line : (n : ℕ) (b : Bool) (rest : List ℕ) → n < 6 → low_irq_in ((codes "irq " ++ (decimal (10 + n) ++ way_text b)) ++ rest) ≡ None
unfolding low_irq_in text_in way_in digit_in digits
high_irq_line zero b rest lt = refl
high_irq_line (suc zero) b rest lt = refl
high_irq_line (suc (suc zero)) b rest lt = refl
high_irq_line (suc (suc (suc zero))) b rest lt = refl
high_irq_line (suc (suc (suc (suc zero)))) b rest lt = refl
high_irq_line (suc (suc (suc (suc (suc zero))))) b rest lt = refl
high_irq_line (suc (suc (suc (suc (suc (suc n)))))) b rest lt = absurd (omega arith)

no_low : (op : PicOp) (rest : List ℕ) → HighCase op → low_irq_in (op_line op ++ rest) ≡ None
unfolding low_irq_in text_in
no_low (Up n) rest (inl w) =
    let same : 10 + (n - 10) ≡ n = omega (arith, w.0) in
    subst (λ (m : ℕ). low_irq_in (op_line (Up m) ++ rest) ≡ None) same (high_irq_line (n - 10) true rest (omega (arith, w.0, w.1)))
no_low (Down n) rest (inl w) =
    let same : 10 + (n - 10) ≡ n = omega (arith, w.0) in
    subst (λ (m : ℕ). low_irq_in (op_line (Down m) ++ rest) ≡ None) same (high_irq_line (n - 10) false rest (omega (arith, w.0, w.1)))
no_low (Put p v) rest (inl w) = absurd w
no_low (Imcr p v) rest (inl w) = absurd w
no_low (Get p) rest (inl w) = absurd w
no_low Ack rest (inl w) = absurd w
no_low op rest (inr e) = ap (λ (x : PicOp). low_irq_in (op_line x ++ rest)) e

abbrev IrqCase : PicOp → Type 0
IrqCase op = IsLowIrq op ⊎ HighCase op

no_get : (op : PicOp) (rest : List ℕ) → IrqCase op → get_in (op_line op ++ rest) ≡ None
unfolding get_in text_in
no_get (Up n) rest w = refl
no_get (Down n) rest w = refl
no_get Ack rest w = refl
no_get (Put p v) rest (inl w) = absurd w
no_get (Imcr p v) rest (inl w) = absurd w
no_get (Get p) rest (inl w) = absurd w
no_get (Put p v) rest (inr (inl w)) = absurd w
no_get (Imcr p v) rest (inr (inl w)) = absurd w
no_get (Get p) rest (inr (inl w)) = absurd w
no_get (Put p v) rest (inr (inr e)) = absurd (cc)
no_get (Imcr p v) rest (inr (inr e)) = absurd (cc)
no_get (Get p) rest (inr (inr e)) = absurd (cc)

abbrev GetCase : PicOp → Type 0
GetCase op = IsGet op ⊎ IrqCase op

no_out : (op : PicOp) (rest : List ℕ) → GetCase op → out_in (op_line op ++ rest) ≡ None
unfolding out_in text_in
no_out (Up n) rest w = refl
no_out (Down n) rest w = refl
no_out Ack rest w = refl
no_out (Get p) rest w = refl
no_out (Put p v) rest (inl w) = absurd w
no_out (Imcr p v) rest (inl w) = absurd w
no_out (Put p v) rest (inr (inl w)) = absurd w
no_out (Imcr p v) rest (inr (inl w)) = absurd w
no_out (Put p v) rest (inr (inr (inl w))) = absurd w
no_out (Imcr p v) rest (inr (inr (inl w))) = absurd w
no_out (Put p v) rest (inr (inr (inr e))) = absurd (cc)
no_out (Imcr p v) rest (inr (inr (inr e))) = absurd (cc)

abbrev AnyCase : PicOp → Type 0
AnyCase op = IsOut op ⊎ GetCase op

to_right : (op : PicOp) → AnyCase op → IsRightOp op
to_right (Put p v) (inl w) = (tt, w)
to_right (Imcr p v) (inl w) = w
to_right (Get p) w = (tt, tt)
to_right (Up n) (inr (inr (inl w))) = ((omega (arith, w.0), w.1), tt)
to_right (Up n) (inr (inr (inr (inl w)))) = ((w.1, λ e. omega (arith, w.0)), tt)
to_right (Down n) (inr (inr (inl w))) = ((omega (arith, w.0), w.1), tt)
to_right (Down n) (inr (inr (inr (inl w)))) = ((w.1, λ e. omega (arith, w.0)), tt)
to_right Ack w = (tt, tt)
to_right (Put p v) (inr (inl w)) = absurd w
to_right (Put p v) (inr (inr (inl w))) = absurd w
to_right (Put p v) (inr (inr (inr (inl w)))) = absurd w
to_right (Put p v) (inr (inr (inr (inr e)))) = absurd (cc)
to_right (Imcr p v) (inr (inl w)) = absurd w
to_right (Imcr p v) (inr (inr (inl w))) = absurd w
to_right (Imcr p v) (inr (inr (inr (inl w)))) = absurd w
to_right (Imcr p v) (inr (inr (inr (inr e)))) = absurd (cc)
to_right (Up n) (inl w) = absurd w
to_right (Up n) (inr (inl w)) = absurd w
to_right (Up n) (inr (inr (inr (inr e)))) = absurd (cc)
to_right (Down n) (inl w) = absurd w
to_right (Down n) (inr (inl w)) = absurd w
to_right (Down n) (inr (inr (inr (inr e)))) = absurd (cc)

of_line : (n : ℕ) → IsDeviceLine n → ((n < 10) × (n ≢ 2)) ⊎ ((10 ≤ n) × (n < 16))
of_line n w = elim (Rattle.std.proofs.lemmas.Bool.cases_lt n 10) [ inl lt ↦ inl (lt, w.1) | inr ge ↦ inr (ge, w.0) ]

of_right : (op : PicOp) → IsRightOp op → AnyCase op
of_right (Put p v) w = inl w.1
of_right (Imcr p v) w = inl w
of_right (Get p) w = inr (inl tt)
of_right (Up n) w = elim (of_line n w.0) [ inl k ↦ inr (inr (inl k)) | inr k ↦ inr (inr (inr (inl k))) ]
of_right (Down n) w = elim (of_line n w.0) [ inl k ↦ inr (inr (inl k)) | inr k ↦ inr (inr (inr (inl k))) ]
of_right Ack w = inr (inr (inr (inr refl)))

pub op-exact : IsExact op_line IsRightOp op_in
unfolding op_in
op-exact =
    value-exact
    (either-exact out-exact
    (either-exact get-exact
    (either-exact low-exact
    (either-exact high-exact (saying-exact op_line Ack) no_high)
    no_low)
    no_get)
    no_out)
    IsRightOp to_right of_right
