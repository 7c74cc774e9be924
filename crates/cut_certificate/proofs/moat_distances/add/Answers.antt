use Rattle.std.proofs.Common.{List, length, ℕ, ◌∙◌, ap, refl, sym}
use Rattle.cut_certificate.proofs.Names.{slice_get_read, lift_input, surrounded}
use Rattle.cut_certificate.proofs.ProgressLemmas.{is_next, progress_on, skipped}
use Rattle.cut_certificate.proofs.moat_distances.add.Goals as goal

pub returns-then-len-members : goal.returns-then-len-members
returns-then-len-members c =
    skipped (lift_input c.args.rows.now c.args.size c.args.moats.now) c.args.members c.args.index c.index-moats-index.result
    c.args.progress.now.stands.items
    c.args.progress.now.reaches.items (slice_get_read c.args.moats.now (length c.args.moats.now) c.args.index c.index-moats-index.result
    refl c.requires.there c.index-moats-index.is)
    (λ same. c.if-len-members.true (c.len.ensures ∙ same)) c.requires.progress

pub distances_of-requires-clause-next : goal.distances_of-requires-clause-next
distances_of-requires-clause-next c =
    is_next (lift_input c.args.rows.now c.args.size c.args.moats.now) c.index-moats-index.result c.args.members c.args.index
    c.args.progress.now.stands.items
    c.as_slice-stands.result.now c.args.progress.now.reaches.items c.as_slice.result.now
    (slice_get_read c.args.moats.now (length c.args.moats.now) c.args.index c.index-moats-index.result refl c.requires.there
    c.index-moats-index.is)
    (sym c.len.ensures ∙ c.if-len-members.false) c.as_slice-stands.ensures.value c.as_slice.ensures.value c.requires.progress

pub returns : goal.returns
returns c =
    progress_on c.args.rows.now c.args.size c.args.moats.now c.index-moats-index.result c.args.members c.args.index
    c.args.progress.now.stands.items
    c.surround.new.stands.items c.args.progress.now.reaches.items c.in_ok-reach.reach c.requires.can
    (slice_get_read c.args.moats.now (length c.args.moats.now) c.args.index c.index-moats-index.result refl c.requires.there
    c.index-moats-index.is)
    (sym c.len.ensures ∙ c.if-len-members.false) c.requires.progress c.in_ok-reach.ensures
    (c.surround.ensures ∙ ap (λ (l : List ℕ). surrounded c.args.progress.now.stands.items l c.args.index) c.as_slice-2.ensures)
