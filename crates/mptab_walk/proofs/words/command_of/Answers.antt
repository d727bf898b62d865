use Rattle.std.proofs.Common.{◌≡◌, ◌∷◌, [], List, ℕ, sym, subst, ◌∙◌, MatchOption}
use Rattle.std.specs.Prelude.{string_bytes}
use Rattle.mptab_walk.specs.Forms.{IsForm, IsAny, form_of}
use Rattle.mptab_walk.specs.Walk.{IsNoForm, texts_of}
use Rattle.mptab_walk.proofs.AnswerLemmas.{four_words}
use Rattle.mptab_walk.proofs.words.command_of.Goals as goal

pub returns-in-len4 : goal.returns-in-len4
returns-in-len4 c =
    let words : texts_of c.args.words.now ≡ string_bytes c.word-item-then-words-lt5.result ∷ string_bytes c.image-item.result ∷ string_bytes c.second-item.result ∷ string_bytes c.third-item-then-words-lt5.result ∷ [] =
    four_words string_bytes c.args.words.now c.word-item-then-words-lt5.result c.image-item.result c.second-item.result c.third-item-then-words-lt5.result c.in-len4.len_at_least c.in-len4.len_below c.word-item-then-words-lt5.is c.image-item.is c.second-item.is c.third-item-then-words-lt5.is in
    let now : c.as_str-in-len4.result.now ∷ c.as_str-in-len4-2.result.now ∷ c.as_str-in-len4-3.result.now ∷ c.as_str-in-len4-4.result.now ∷ [] ≡ string_bytes c.word-item-then-words-lt5.result ∷ string_bytes c.image-item.result ∷ string_bytes c.second-item.result ∷ string_bytes c.third-item-then-words-lt5.result ∷ [] =
    λ i. c.as_str-in-len4.ensures.value i ∷ c.as_str-in-len4-2.ensures.value i ∷ c.as_str-in-len4-3.ensures.value i ∷ c.as_str-in-len4-4.ensures.value i ∷ [] in
    subst (λ (ws : List (List ℕ)). MatchOption c.of_four_words.result (IsNoForm IsAny ws) (λ command. IsForm (form_of command) ws)) (now ∙ sym words) c.of_four_words.ensures
