-- What the counts of entries tell of the board.
use Rattle.std.proofs.Common.{◌≡◌, ℕ, zero, suc, ◌+◌, ◌<◌, Bool, true, false, cond, List, [], ◌∷◌, ◌++◌, length, take, get_or, refl, sym, ap, ap₂, ◌∙◌, arith, is_some, nat_le}
use Rattle.std.specs.List.{filter_map}
use mir.Val.{bool_byte}
use Rattle.mpb_spec.specs.declared.agent.Agent.TheVariants.{Cpu}
use Rattle.mpb_spec.specs.declared.agent.Op.{Op}
use Rattle.mpb_spec.specs.declared.agent.Op.TheVariants as op
use Rattle.mpb_spec.specs.declared.config.DevWord.{DevWord}
use Rattle.mpb_spec.specs.declared.config.DevWord.TheVariants as word
use Rattle.mpb_spec.specs.declared.entry.Entry.{Entry}
use Rattle.mpb_spec.specs.State.{boot_is_through, all_ended}
use Rattle.mpb_spec.specs.Plan.{Plan, op_of_word, device_program}
use Rattle.mpb_spec.specs.Configs.{IsConfig}
use Rattle.mpb_spec.specs.Journal.{final_state_of}
use Rattle.mpb_replay_laws.specs.Made.{made_by, all_made}
use Rattle.mpb_replay_laws.proofs.Positions.{through_is, ended_is}

-- the boot program
pub through_by : (c : Plan) (journal entries : List Entry) (boot boot_len made : ℕ) → IsConfig c → boot ≡ c.boot → boot_len ≡ c.boot_len → entries ≡ journal → made ≡ made_by (Cpu boot) entries → nat_le boot_len made ≡ boot_is_through (final_state_of c journal)
through_by c journal entries boot boot_len made is b n e m =
    ap (nat_le boot_len) (m ∙ ap (λ (i : ℕ). made_by (Cpu i) entries) b ∙ ap (made_by (Cpu c.boot)) e)
    ∙ ap (λ (k : ℕ). nat_le k (made_by (Cpu c.boot) journal)) n
    ∙ sym (through_is c journal is)

-- one more word
pub ops_more : (ws : List DevWord) (i : ℕ) (d : DevWord) → i < length ws → length (filter_map op_of_word (take (i + 1) ws)) ≡ length (filter_map op_of_word (take i ws)) + cond (is_some (op_of_word (get_or ws i d))) 1 0
ops_more ws i d lt = ap (λ (n : ℕ). length (filter_map op_of_word (take n ws))) (next i) ∙ go ws i lt where
  next : (k : ℕ) → k + 1 ≡ suc k
  next k = omega arith

  one : (w : DevWord) (ws : List DevWord) → length (filter_map op_of_word (w ∷ ws)) ≡ length (filter_map op_of_word ws) + cond (is_some (op_of_word w)) 1 0
  one (word.Pulse a p) ws = omega arith
  one (word.High a p) ws = omega arith
  one (word.Low a p) ws = omega arith

  go : (ws : List DevWord) (i : ℕ) → i < length ws → length (filter_map op_of_word (take (suc i) ws)) ≡ length (filter_map op_of_word (take i ws)) + cond (is_some (op_of_word (get_or ws i d))) 1 0
  go [] i lt = absurd (omega (arith, lt))
  go (w ∷ ws) zero lt = one w []
  go (w ∷ ws) (suc i) lt = omega (arith, one w (take (suc i) ws), one w (take i ws), go ws i (omega (arith, lt)))

byte : (b : Bool) → bool_byte b ≡ cond b 1 0
byte true = refl
byte false = refl

pub ops_counted : (ws : List DevWord) (i : ℕ) (d : DevWord) (b : Bool) (n : ℕ) → i < length ws → b ≡ is_some (op_of_word (get_or ws i d)) → n ≡ bool_byte b → length (filter_map op_of_word (take (i + 1) ws)) ≡ length (filter_map op_of_word (take i ws)) + n
ops_counted ws i d b n lt e h = omega (arith, ops_more ws i d lt, h, byte b, ap (λ (t : Bool). cond {A = ℕ} t 1 0) e)

pub program_length : (ws : List DevWord) → length (device_program ws) ≡ 2 + length (filter_map op_of_word ws)
program_length ws = omega (arith, last (filter_map op_of_word ws)) where
  last : (os : List Op) → length (os ++ op.End ∷ []) ≡ length os + 1
  last [] = refl
  last (o ∷ os) = omega (arith, last os)

pub all_ended_by : (c : Plan) (journal entries : List Entry) (devices : List (List DevWord)) (b : Bool) → entries ≡ journal → devices ≡ c.devices → b ≡ all_made 0 entries devices → b ≡ all_ended (final_state_of c journal)
all_ended_by c journal entries devices b e d h = h ∙ ap₂ (λ (xs : List Entry) (ds : List (List DevWord)). all_made 0 xs ds) e d ∙ sym (ended_is c journal)
