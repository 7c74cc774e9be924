-- The results of the bytes of a list that are taken line by line.
use Rattle.std.proofs.Common.{◌≡◌, ◌≢◌, ℕ, ◌+◌, List, [], ◌∷◌, ◌++◌, length, drop, refl, ap, sym, ◌∙◌, arith}
use Rattle.stitch_text.proofs.Names.{nat_tests, drop-drop, ContinuesAs, ListDraft, ListStage, parsed_parts, list_state_at, ParsedList, loaded_of_parsed, parts_between, some_part, length-drop, DecodedSoFar, DecoderState, TakesBytes, TakesLine, TakesLines}
use Rattle.stitch_text.proofs.PartLemmas.{parts_on}

-- a line that has ended is taken
pub line_on : (old : DecoderState) (draft new : ListDraft) (was now : ListStage) (start at there : ℕ) (whole rest line after : List ℕ)
    → ContinuesAs old (list_state_at draft was) start at whole rest → parts_between 10 rest ≡ line ∷ parts_between 10 after
    → TakesLine (parsed_parts draft was) (parsed_parts new now) at line → there ≡ at + length line + 1
    → ContinuesAs old (list_state_at new now) start there whole after
line_on old draft new was now start at there whole rest line after on are takes is = record {
  rest = λ more. on.rest more ∙ ap loaded_of_parsed (parsed more);
  decoded = λ more. on.decoded more ∙ ap (λ (s : ParsedList). s.design.commands) (parsed more);
} where
  by_parts : (parts : List (List ℕ)) → parts ≢ []
      → parsed_parts draft was at (line ∷ parts) ≡ parsed_parts new now (at + length line + 1) parts
  by_parts [] some = absurd (some refl)
  by_parts (next ∷ more) some = takes.on next more

  parsed : (more : List ℕ) → parsed_parts draft was at (parts_between 10 (rest ++ more))
      ≡ parsed_parts new now there (parts_between 10 (after ++ more))
  parsed more = ap (parsed_parts draft was at) (grind (arith, nat_tests, parts_on, some_part))
      ∙ by_parts (parts_between 10 (after ++ more)) (some_part 10 (after ++ more))
      ∙ ap (λ n. parsed_parts new now n (parts_between 10 (after ++ more))) (sym is)

-- lines that have ended are taken, and then what is left of the bytes or nothing of it
pub takes_lines : (old middle new : DecoderState) (so_far : DecodedSoFar) (at size more : ℕ) (bytes part : List ℕ)
    → TakesLines old middle at bytes size → part ≡ drop size bytes → TakesBytes middle new so_far (at + size) part more
    → TakesBytes old new so_far at bytes (size + more)
takes_lines old middle new so_far at size more bytes part lines is takes =
    grind (
      arith,
      nat_tests,
      lines.there,
      takes.there,
      takes.few,
      length-drop,
      drop-drop,
      lines.on.rest,
      middle.rest,
      takes.on.rest,
      new.rest,
      lines.on.decoded,
      middle.decoded,
      takes.on.decoded,
      new.decoded,
      takes.settled,
    )
