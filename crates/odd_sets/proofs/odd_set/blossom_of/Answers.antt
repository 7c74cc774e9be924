use Rattle.std.proofs.Common.{List, ap, ◌∙◌}
use Rattle.odd_sets.proofs.Names.{members_in, blossom_slacks, parts_in, BlossomPart}
use Rattle.odd_sets.proofs.SlotLemmas.{blossom_more}
use Rattle.odd_sets.proofs.odd_set.blossom_of.Goals as goal

pub returns-clause-is : goal.returns-clause-is
returns-clause-is c =
    (blossom_more c.args.sets.now c.insert.new.self c.in_ok-key.key
    (record { members = c.in_ok-members.members; near = c.in_ok-near.near; parts = c.args.parts }) c.in_ok-key.ensures.was_vacant
    c.in_ok-key.ensures.updates c.requires.sets c.requires.blossom
    (c.in_ok-members.ensures ∙ ap (λ (ps : List BlossomPart). members_in (parts_in c.args.sets.now ps)) c.deref.ensures.value)
    (c.in_ok-near.ensures ∙ ap (λ (ps : List BlossomPart). blossom_slacks (parts_in c.args.sets.now ps)) c.deref-2.ensures.value)).same

pub returns-clause-inserts : goal.returns-clause-inserts
returns-clause-inserts c =
    (blossom_more c.args.sets.now c.insert.new.self c.in_ok-key.key
    (record { members = c.in_ok-members.members; near = c.in_ok-near.near; parts = c.args.parts }) c.in_ok-key.ensures.was_vacant
    c.in_ok-key.ensures.updates c.requires.sets c.requires.blossom
    (c.in_ok-members.ensures ∙ ap (λ (ps : List BlossomPart). members_in (parts_in c.args.sets.now ps)) c.deref.ensures.value)
    (c.in_ok-near.ensures ∙ ap (λ (ps : List BlossomPart). blossom_slacks (parts_in c.args.sets.now ps)) c.deref-2.ensures.value)).inserts
