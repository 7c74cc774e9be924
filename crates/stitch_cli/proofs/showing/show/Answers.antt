use Rattle.std.proofs.Common.{Ok, subst}
use Rattle.stitch_cli.proofs.Names.{Meaning, RunsPurePlan, complete_show, option_map, same_format, settles_found, show_order, show_read, showing, stitch}
use Rattle.stitch_cli.proofs.showing.show.Goals as goal

pub returns-clause-answers : goal.returns-clause-answers
returns-clause-answers g c =
    settles_found stitch (λ known. option_map (λ o. showing o) (complete_show c.args.file.now known)) _
    (λ m. show_read (show_order c.args.file.now m)) _ _ _ _ _ _ c.in_ok-found.ensures.loads (λ m runs. runs) (λ m at.
    subst (λ (here : Meaning). RunsPurePlan (show_read (show_order c.args.file.now here) (Ok c.in_ok-found.found.loaded)) c.shown.result)
    (same_format _ _ c.in_ok-found.found.index _ m c.in_ok-found.ensures.same c.format_at.ensures at) c.shown.ensures)
