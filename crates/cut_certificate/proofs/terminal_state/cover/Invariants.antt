use Rattle.std.proofs.Common.{◌≡◌, ◌<◌, All, length}
use Rattle.cut_certificate.proofs.Names.{covered}
use Rattle.cut_certificate.proofs.terminal_state.cover.Given as goal

-- covering the remaining terminals gives the wanted states
abbrev pub invariant-loop-rest : goal.invariant-loop-rest
invariant-loop-rest l = record {
  there : All (λ t. t < length l.stands.items) l.rest;
  size : length l.stands.items ≡ length l.fn.stands.items;
  value : covered l.stands.items l.rest ≡ covered l.fn.stands.items l.members;
}

abbrev pub decreases-loop-rest : goal.decreases-loop-rest
decreases-loop-rest l = length l.rest
