use Rattle.std.proofs.Common.{sym, subst}
use Rattle.format_traits.proofs.Names.{DecodesTo}
use Rattle.format_traits.proofs.FeedLemmas.{passes_whole}
use Rattle.format_traits.proofs.chunk_passing.decode_whole.Goals as goal

pub returns : goal.returns
returns g c = subst (λ answer. DecodesTo answer c.finish.result)
    (sym (passes_whole _ _ _ _ c.args.start _ c.args.bytes.now _ c.new-pending.ensures c.begin.ensures.same c.in_ok-pass_on.ensures))
    c.finish.ensures
