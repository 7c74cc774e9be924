use Rattle.stitch_cli.proofs.Names.{complete_hoop, hoop_order, hoop_read, hooping, option_map, settles_found, stitch}
use Rattle.stitch_cli.proofs.hooping.hoop.Goals as goal

pub returns-clause-answers : goal.returns-clause-answers
returns-clause-answers g c =
    settles_found stitch (λ known. option_map (λ o. hooping o) (complete_hoop c.args.file.now c.args.width c.args.height known)) _
    (λ m. hoop_read (hoop_order c.args.file.now m c.args.width c.args.height)) _ _ _ _ _ _ c.in_ok-found.ensures.loads
    (λ m runs. runs) (λ m at. rw c.fits.ensures at c.fitted.ensures)
