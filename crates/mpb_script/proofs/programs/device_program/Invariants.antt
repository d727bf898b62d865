use Rattle.std.proofs.Common.{◌≡◌, map, take, drop, Ok}
use Rattle.mpb_words.specs.Words.{device_word_of}
use Rattle.mpb_script.specs.Steps.{wrong_word}
use Rattle.mpb_script.proofs.ProgramLemmas.{texts}
use Rattle.mpb_script.proofs.programs.device_program.Given as goal

abbrev pub invariant-loop-index : goal.invariant-loop-index
invariant-loop-index l =
    (map device_word_of (texts (take l.index l.words)) ≡ map Ok l.program.items)
    × (wrong_word device_word_of l.agent l.index (texts (drop l.index l.words)) ≡ wrong_word device_word_of l.agent 0 (texts l.words))
