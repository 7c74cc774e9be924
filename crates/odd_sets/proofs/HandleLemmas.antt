-- What an index past the end of a list would find.
use Rattle.odd_sets.proofs.Names.{TightEdge, Handle, BlossomPart, Match, Branch}

abbrev pub no_link : TightEdge
no_link = record { from = 0; to = 0 }

abbrev pub no_seat : Handle
no_seat = record { key = 0; dual = 0 }

abbrev pub no_part : BlossomPart
no_part = record { handle = no_seat; next = no_link }

abbrev pub no_match : Match
no_match = record { first = no_seat; second = no_seat; link = no_link }

abbrev pub no_branch : Branch
no_branch = record { up = no_link; inner = no_seat; pair = no_link; outer = no_seat }
