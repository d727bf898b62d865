use Rattle.std.proofs.Common.{◌≡◌, ◌<◌, ◌^◌, ℕ, List, get_or, Fits, w8, arith, sym, ap, subst, ◌∙◌}
use Rattle.mpt_route.specs.declared.route.Answer.{Answer}
use Rattle.mpt_route.specs.Routes.{routes_of}
use Rattle.mpb_spec.specs.Plan.{Plan, plan_size}
use Rattle.mpb_spec.specs.Room.{room}
use Rattle.mpb_spec.specs.Configs.{IsStartableAt}
use Rattle.mpb_setup.specs.Board.{enabled_ids, board_config_of}
use Rattle.mpb_spec.specs.Numbers.{AreBytes}
use Rattle.mpb_setup.proofs.ListLemmas.{are-bytes}
use Rattle.mpb_setup.proofs.StartLemmas.{config_starts}
use Rattle.mpb_setup.proofs.RoomLemmas.{config_small}
use Rattle.mpb_setup.proofs.setup.answer.Goals as goal

bytes : (ids same : List ℕ) → ids ≡ same → ((i : ℕ) → Fits w8 (get_or ids i 0)) → AreBytes same
bytes ids same e fits = subst AreBytes e (are-bytes ids (λ i _. omega (arith, fits i)))

pub made-requires-clause-bytes : goal.made-requires-clause-bytes
made-requires-clause-bytes c = bytes c.args.enabled.now (enabled_ids c.args.p.now) c.requires.enabled c.type_inv.enabled

pub returns-in-Ok-clause-startable : goal.returns-in-Ok-clause-startable
returns-in-Ok-clause-startable c =
    let p = c.args.p.now in
    let s = c.args.s.now in
    let none = sym c.board_fault.ensures.fault ∙ c.in_default.is in
    let same : c.in-Ok.config ≡ board_config_of p (routes_of p s.elcr) s = c.in-Ok.ensures ∙ ap (λ (answers : List Answer). board_config_of p answers s) c.requires.answers in
    subst (IsStartableAt s.page) (sym same) (config_starts p s none c.requires.values)

pub returns-in-Ok-clause-small : goal.returns-in-Ok-clause-small
returns-in-Ok-clause-small c =
    let p = c.args.p.now in
    let s = c.args.s.now in
    let none = sym c.board_fault.ensures.fault ∙ c.in_default.is in
    let same : c.in-Ok.config ≡ board_config_of p (routes_of p s.elcr) s = c.in-Ok.ensures ∙ ap (λ (answers : List Answer). board_config_of p answers s) c.requires.answers in
    subst (λ (x : Plan). plan_size x < 2 ^ 32) (sym same) (config_small p s none c.requires.values (bytes c.args.enabled.now (enabled_ids p) c.requires.enabled c.type_inv.enabled)).size

pub returns-in-Ok-clause-room : goal.returns-in-Ok-clause-room
returns-in-Ok-clause-room c =
    let p = c.args.p.now in
    let s = c.args.s.now in
    let none = sym c.board_fault.ensures.fault ∙ c.in_default.is in
    let same : c.in-Ok.config ≡ board_config_of p (routes_of p s.elcr) s = c.in-Ok.ensures ∙ ap (λ (answers : List Answer). board_config_of p answers s) c.requires.answers in
    subst (λ (x : Plan). room x < 850000) (sym same) (config_small p s none c.requires.values (bytes c.args.enabled.now (enabled_ids p) c.requires.enabled c.type_inv.enabled)).room
