use Rattle.std.proofs.Common.{sym, ◌∙◌, [], ◌∷◌}
use Rattle.hex.specs.Hex.{decode_sized}
use Rattle.mpt_line.proofs.PairLemmas.{byte_in-pair, byte_in-ok, byte_in-err}
use Rattle.mpt_line.proofs.fields.byte_of.Goals as goal

pub returns-in-Ok : goal.returns-in-Ok
returns-in-Ok c =
    byte_in-ok (decode_sized (c.args.high ∷ c.args.low ∷ []) 1) c.decode_to_slice.result c.decode_to_slice.new.out c.decode_to_slice.ensures.value c.in-Ok.is
    ∙ byte_in-pair c.args.high c.args.low (sym c.is_lower_case.ensures ∙ c.if-is_lower_case.false) (sym c.is_lower_case-else-is_lower_case.ensures ∙ c.if-is_lower_case-2.false)

pub returns-in-Err : goal.returns-in-Err
returns-in-Err c =
    byte_in-err (decode_sized (c.args.high ∷ c.args.low ∷ []) 1) c.decode_to_slice.result c.decode_to_slice.new.out c.in-Err.field-0 c.decode_to_slice.ensures.value c.in-Err.is
    ∙ byte_in-pair c.args.high c.args.low (sym c.is_lower_case.ensures ∙ c.if-is_lower_case.false) (sym c.is_lower_case-else-is_lower_case.ensures ∙ c.if-is_lower_case-2.false)
