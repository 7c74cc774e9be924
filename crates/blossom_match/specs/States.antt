-- The values of a search and of a partial matching, with the odd sets of their slots.
use Rattle.odd_sets.specs.Slots.{matches_in, branches_in, set_in}
use Rattle.odd_sets.specs.Values.{SearchValue, PartialMatchingValue}
use Rattle.blossom_match.specs.declared.state.Search.{Search}
use Rattle.blossom_match.specs.declared.state.Pairing.{Pairing}

-- The value of a search.
abbrev pub search_value : Search → SearchValue
search_value s = record {
  root = set_in s.sets s.root;
  tree = branches_in s.sets s.tree.items;
  rest = matches_in s.sets s.rest.items;
  free = s.free.items;
  heights = s.heights.items;
}

-- The value of a partial matching.
abbrev pub partial_value : Pairing → PartialMatchingValue
partial_value s = record {
  matches = matches_in s.sets s.matches.items;
  free = s.free.items;
  heights = s.heights.items;
}
