use Rattle.std.proofs.Common.{◌*◌, ◌+◌, ◌-◌, ◌^◌, ◌≡◌, ◌≤◌, drop, length}
use Rattle.drawing_picture.proofs.Names.{retraced_steps}
use Rattle.drawing_picture.proofs.proof_captions.steps_again.Given as goal

-- the steps so far with those that are left are those of all
abbrev pub invariant-loop-cert : goal.invariant-loop-cert
invariant-loop-cert l = record {
  few : l.steps + (2 ^ 32 - 1) * length (drop l.cert-index l.certs) ≤ (2 ^ 32 - 1) * length l.certs;
  sum : l.steps + retraced_steps (drop l.cert-index l.certs) ≡ retraced_steps l.certs;
}
