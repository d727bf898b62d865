-- What the laws say of boards: the tables of an image of bytes and a script have one trace, and some boot.
use Rattle.std.proofs.Common.{◌≡◌, ℕ, ◌<◌, ◌≤◌, ◌^◌, length, sum_by, Bool, true, false, cond, List, [], ◌∷◌, filter, filter_map, map, count_by, None, refl, sym, ap, ◌∙◌, arith}
use Rattle.std.specs.List.{AllByRecursion}
use Rattle.mpt_spec.specs.declared.entry.Processor.{Processor}
use Rattle.mpt_spec.specs.declared.entry.Base.{Base}
use Rattle.mpt_spec.specs.declared.entry.Base.TheVariants as base
use Rattle.mpt_spec.specs.declared.tables.Body.{Body}
use Rattle.mpt_spec.specs.declared.tables.Body.TheVariants as body
use Rattle.mpt_spec.specs.declared.tables.Tables.{Tables}
use Rattle.mpt_spec.specs.Values.{IsBaseValue, IsBodyValue, IsTablesValue}
use Rattle.mpt_route.specs.Platform.{platform_of, platform_of_body, processor_in}
use Rattle.mpb_spec.specs.declared.entry.Entry.{Entry}
use Rattle.mpb_spec.specs.Plan.{Plan, plan_size}
use Rattle.mpb_spec.specs.Configs.{IsConfig, IsStartableAt}
use Rattle.mpb_spec.specs.Room.{room}
use Rattle.mpb_script.specs.declared.script.Script.{Script}
use Rattle.mpb_script.specs.Values.{HasScriptValues, words_in}
use Rattle.mpb_setup.specs.Boot.{is_enabled}
use Rattle.mpb_setup.specs.Board.{enabled_ids, board_config_of}
use Rattle.mpb_spec.specs.Numbers.{AreBytes}
use Rattle.mpb_setup.proofs.BoardLemmas.{config_right}
use Rattle.mpb_setup.proofs.StartLemmas.{config_starts}
use Rattle.mpb_setup.proofs.RoomLemmas.{config_small}
use Rattle.mpb_start_laws.proofs.StartedOnce.{started_once}
use Rattle.mpb_spec.specs.declared.pulse.Pulse.{Pulse}
use Rattle.mpb_spec.specs.declared.pulse.Hit.{Hit}
use Rattle.mpb_robin.proofs.OneEnd.{some_end, same_end}
use Rattle.mpb_robin.proofs.AtTheEnd.{is_complete, is_accounted}
use Rattle.mpb_report_spec.specs.Report.{report_of}
use Rattle.mpb_report_laws.specs.Values.{HasOpValues}
use Rattle.mpb_report_laws.proofs.BoardOps.{board_values}
use Rattle.mpb_drill.specs.Drill.{drill_tables, drill_script}
use Rattle.mpb_drill.proofs.DrillLemmas.{no_fault_of, values_of, bytes_of}
use Rattle.mpb_tally.specs.Tally.{tally_of}
use Rattle.mpb_tally.specs.Summary.{is_routed, summary_of, drill_routes, drill_board, IsSummaryOf}
use Rattle.mpb_spec.specs.Journal.{final_state_of}
use Rattle.mpt_route.specs.declared.platform.Platform.{Platform}
use Rattle.mpf_pic_lines.specs.declared.op.PicOp.{PicOp}
use Rattle.mpf_pic.specs.Wiring.{wiring_of}
use Rattle.mpf_pic.specs.Play.{pic_text}
use Rattle.mpf_played.specs.Played.{IsPlayedBehind}
use Rattle.mpb_boards.specs.Boot.{board_of, fault_of, IsTraceOf, IsBootOf}

-- ids that are bytes
apics : (ps : List Processor) → AllByRecursion (λ e. e.apic < 256) ps → AreBytes (map (λ e. e.apic) (filter is_enabled ps))
apics [] h = tt
apics (e ∷ es) h = go (is_enabled e) (apics es h.1) where
  go : (b : Bool) → AreBytes (map (λ (x : Processor). x.apic) (filter is_enabled es)) → AreBytes (map (λ (x : Processor). x.apic) (cond b (e ∷ filter is_enabled es) (filter is_enabled es)))
  go true rest = (h.0, rest)
  go false rest = rest

listed : (es : List Base) → AllByRecursion IsBaseValue es → AllByRecursion (λ e. e.apic < 256) (filter_map processor_in es)
listed [] h = tt
listed (base.Processor e ∷ es) h = (h.0.apic, listed es h.1)
listed (base.Bus e ∷ es) h = listed es h.1
listed (base.IoApic e ∷ es) h = listed es h.1
listed (base.IoInt e ∷ es) h = listed es h.1
listed (base.LocalInt e ∷ es) h = listed es h.1

of_body : (imcr : Bool) (b : Body) → IsBodyValue b → AllByRecursion (λ e. e.apic < 256) (platform_of_body imcr b).processors
of_body imcr (body.Listed t) h = listed t.base h.base
of_body imcr (body.Default n) h = (omega arith, (omega arith, tt))

bytes_enabled : (tables : Tables) → IsTablesValue tables → AreBytes (enabled_ids (platform_of tables))
bytes_enabled tables v = apics (platform_of tables).processors (of_body _ tables.body v.body)

module _ (tables : Tables) (s : Script) (values : IsTablesValue tables) (words : HasScriptValues s) (sound : fault_of tables s ≡ None) where
  pub board_config : IsConfig (board_of tables s)
  board_config = config_right (platform_of tables) s sound words

  pub small : plan_size (board_of tables s) < 2 ^ 32
  small = (config_small (platform_of tables) s sound words (bytes_enabled tables values)).size

  startable : IsStartableAt s.page (board_of tables s)
  startable = config_starts (platform_of tables) s sound words

  pub room_small : room (board_of tables s) < 850000
  room_small = (config_small (platform_of tables) s sound words (bytes_enabled tables values)).room

  pub few_words : sum_by length (board_of tables s).devices ≤ 8192
  unfolding board_config_of
  few_words = let few : words_in s ≤ 8192 = words.few_words in let devices : sum_by length s.devices ≤ 8192 = omega (arith, few) in devices

  pub op_values : HasOpValues (board_of tables s)
  op_values = board_values (platform_of tables) s sound words (bytes_enabled tables values)

  pub trace_some : (text : List ℕ) × IsTraceOf (board_of tables s) text
  trace_some =
      let end = some_end (board_of tables s) board_config small in
      (report_of (board_of tables s) end.0.journal end.0.logs, (end.0.journal, end.0.logs, (end.0, end.1, refl, refl), refl))

  pub boot_some : (text : List ℕ) × IsBootOf s.page (board_of tables s) text
  boot_some =
      let t = trace_some in
      let journal = t.1.0 in
      let logs = t.1.1 in
      let complete = is_complete (board_of tables s) journal logs board_config small t.1.2 in
      (t.0, (journal, logs, record { complete = complete; started = started_once s.page (board_of tables s) journal board_config startable complete; accounts = is_accounted (board_of tables s) journal logs board_config small t.1.2 }, t.1.3))

-- a drill has one summary
module _ (n : ℕ) where
  drill_sound : fault_of (drill_tables n) (drill_script n) ≡ None
  drill_sound = no_fault_of n

  pub drill_some : (text : List ℕ) × IsSummaryOf n text
  drill_some =
      let p = platform_of (drill_tables n) in
      let s = drill_script n in
      let c = board_of (drill_tables n) s in
      let config = config_right p s drill_sound (values_of n) in
      let small = (config_small p s drill_sound (values_of n) (bytes_of n)).size in
      let end = some_end c config small in
      (summary_of n (count_by is_routed (drill_routes n)) (tally_of end.0.journal end.0.logs), (end.0.journal, end.0.logs, (end.0, end.1, refl, refl), refl))

pub drill_one : (n : ℕ) (t u : List ℕ) → IsSummaryOf n t → IsSummaryOf n u → t ≡ u
drill_one n t u a b =
    let same = same_end (drill_board n) a.2.0 b.2.0 a.2.1 b.2.1 in
    let journals : a.0 ≡ b.0 = sym a.2.2 ∙ ap (λ r. r.journal) same ∙ b.2.2 in
    let logs : a.1 ≡ b.1 = sym a.2.3 ∙ ap (λ r. r.logs) same ∙ b.2.3 in
    a.3 ∙ ap (λ (q : List Entry × List (List (Pulse × Hit))). summary_of n (count_by is_routed (drill_routes n)) (tally_of q.0 q.1)) (λ i. (journals i, logs i)) ∙ sym b.3

pub trace_one : (c : Plan) (t u : List ℕ) → IsTraceOf c t → IsTraceOf c u → t ≡ u
trace_one c t u a b =
    let same = same_end c a.2.0 b.2.0 a.2.1 b.2.1 in
    let journals : a.0 ≡ b.0 = sym a.2.2 ∙ ap (λ r. r.journal) same ∙ b.2.2 in
    let logs : a.1 ≡ b.1 = sym a.2.3 ∙ ap (λ r. r.logs) same ∙ b.2.3 in
    a.3 ∙ ap (λ (q : List Entry × List (List (Pulse × Hit))). report_of c q.0 q.1) (λ i. (journals i, logs i)) ∙ sym b.3

-- calls behind the round robin of a board have one text, and there is one
pub played_one : (c : Plan) (p : Platform) (ops : List PicOp) (t u : List ℕ) → IsPlayedBehind c p ops t → IsPlayedBehind c p ops u → t ≡ u
played_one c p ops t u a b =
    let same = same_end c a.2.0 b.2.0 a.2.1 b.2.1 in
    let journals : a.0 ≡ b.0 = sym a.2.2 ∙ ap (λ r. r.journal) same ∙ b.2.2 in
    a.3 ∙ ap (λ (j : List Entry). pic_text (wiring_of c.boot p (final_state_of c j)) ops) journals ∙ sym b.3

pub played_some : (c : Plan) (p : Platform) (ops : List PicOp) → (text : List ℕ) × IsTraceOf c text → (text : List ℕ) × IsPlayedBehind c p ops text
played_some c p ops t = (pic_text (wiring_of c.boot p (final_state_of c t.1.0)) ops, (t.1.0, t.1.1, t.1.2, refl))
