use Rattle.std.proofs.Common.{◌≡◌, ℕ, ◌<◌, false, length, get_or, nat_lt, subst}
use Rattle.mpb_board.specs.BoardView.{state_of}
use Rattle.mpb_replay_laws.specs.Lines.{io_line_in, line_of_place}
use Rattle.mpb_replay.proofs.PlaceLemmas.{got_one, got_none, left, right, neither}
use Rattle.mpb_replay.proofs.StateLemmas.{io_told, no_io, some_io}
use Rattle.mpb_replay.proofs.lines.is_io_right.Goals as goal

pub returns-in-Some-io : goal.returns-in-Some-io
returns-in-Some-io c =
    let lines = c.args.lines.now in
    let line = c.in-Some.line.now in
    let within = subst (λ (k : ℕ). k < length lines) c.from.ensures c.in-Some.ensures.lookup.3.0 in
    let is = subst (λ (k : ℕ). line ≡ get_or lines k line) c.from.ensures c.in-Some.ensures.lookup.1 in
    io_told c.is_line_of_io.result lines (state_of c.args.board.now).places c.args.place line c.in-Some-io.chip.now within is c.in-Some-io.ensures.io c.is_line_of_io.ensures

pub returns-in-None-io : goal.returns-in-None-io
returns-in-None-io c =
    let lines = c.args.lines.now in
    let line = c.in-Some.line.now in
    let within = subst (λ (k : ℕ). k < length lines) c.from.ensures c.in-Some.ensures.lookup.3.0 in
    let is = subst (λ (k : ℕ). line ≡ get_or lines k line) c.from.ensures c.in-Some.ensures.lookup.1 in
    left (io_line_in line) _ _ (got_one io_line_in c.args.place lines line within is) (no_io (state_of c.args.board.now).places c.args.place c.in-None-io.ensures.io)

pub returns-in-Some-io-2 : goal.returns-in-Some-io-2
returns-in-Some-io-2 c =
    let lines = c.args.lines.now in
    let beyond = subst (λ (k : ℕ). false ≡ nat_lt k (length lines)) c.from.ensures c.in-None.ensures.lookup.0 in
    let here = some_io (state_of c.args.board.now).places c.args.place c.in-Some-io-2.field-0.now c.in-Some-io-2.ensures.io in
    right (line_of_place here.0) _ _ (got_none io_line_in c.args.place lines beyond) here.1

pub returns-in-None-io-2 : goal.returns-in-None-io-2
returns-in-None-io-2 c =
    let lines = c.args.lines.now in
    let beyond = subst (λ (k : ℕ). false ≡ nat_lt k (length lines)) c.from.ensures c.in-None.ensures.lookup.0 in
    neither _ _ (got_none io_line_in c.args.place lines beyond) (no_io (state_of c.args.board.now).places c.args.place c.in-None-io-2.ensures.io)
