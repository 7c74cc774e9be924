-- Walks sewn one after another.
use Rattle.std.proofs.Common.{◌≡◌, ◌≤◌, ℕ, ◌+◌, List, ◌∷◌, ◌++◌, length, arith, sym, ◌∙◌, ap, subst}
use Rattle.route_verdict.proofs.Names.{nat_tests, append_assoc, length-append, All-head, All-tail, PieceCert, Command, DesignValue, DrawingValue, block_of_passes, runs_of, needles_of_walk, walks_of, with_commands, AllDrawn, AreDrawn, run_commands, commands_after}

-- what is left to sew, after the walks so far
pub record Left (d : DrawingValue) (pieces : List PieceCert) (begun design : DesignValue) (before : ℕ)
    (rest : List PieceCert) : Type 0 where
  pub drawn : AllDrawn d rest
  pub room : length design.commands + length (commands_after before (runs_of d (walks_of rest))) ≤ 1000000
  pub whole : with_commands design (commands_after before (runs_of d (walks_of rest)))
      ≡ with_commands begun (commands_after 0 (runs_of d (walks_of pieces)))

-- the commands of one walk, and those of the walks after it
pub walk_first : (d : DrawingValue) (before : ℕ) (piece : PieceCert) (rest : List PieceCert)
    → commands_after before (runs_of d (walks_of (piece ∷ rest)))
    ≡ run_commands before (block_of_passes d piece.walk) (needles_of_walk d piece.walk)
    ++ commands_after (block_of_passes d piece.walk) (runs_of d (walks_of rest))
walk_first d before piece rest = grind (arith, nat_tests, append_assoc)

pub sews_on : (d : DrawingValue) (pieces : List PieceCert) (begun design next : DesignValue) (before block : ℕ) (left rest : List PieceCert)
    (piece : PieceCert) → left ≡ piece ∷ rest → block ≡ block_of_passes d piece.walk
    → next ≡ with_commands design (run_commands before (block_of_passes d piece.walk) (needles_of_walk d piece.walk))
    → Left d pieces begun design before left → Left d pieces begun next block rest
sews_on d pieces begun design next before block left rest piece is at put l =
    let run = run_commands before (block_of_passes d piece.walk) (needles_of_walk d piece.walk) in
    let later = commands_after (block_of_passes d piece.walk) (runs_of d (walks_of rest)) in
    let all : commands_after before (runs_of d (walks_of left)) ≡ run ++ later
    = ap (λ (ps : List PieceCert). commands_after before (runs_of d (walks_of ps))) is ∙ walk_first d before piece rest in
    rw (at, put) (record {
      drawn = All-tail (λ (p : PieceCert). AreDrawn d p.walk) piece rest (subst (AllDrawn d) is l.drawn);
      room = omega (arith, l.room, ap (λ (cs : List Command). length cs) all, length-append run later, length-append design.commands run);
      whole = ap (λ (cs : List Command). record design { commands = cs })
          (append_assoc design.commands run later ∙ ap (λ (cs : List Command). design.commands ++ cs) (sym all)) ∙ l.whole;
    })

pub drawn_piece : (d : DrawingValue) (left rest : List PieceCert) (piece : PieceCert) → left ≡ piece ∷ rest → AllDrawn d left
    → AreDrawn d piece.walk
drawn_piece d left rest piece is drawn = All-head (λ (p : PieceCert). AreDrawn d p.walk) piece rest (subst (AllDrawn d) is drawn)
