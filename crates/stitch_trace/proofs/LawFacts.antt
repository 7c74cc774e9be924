-- What the theorems on traced drawings exclude, in tenths of a millimetre. Blocks count from 0.
use Rattle.std.proofs.Common.{◌≡◌, ◌≢◌, ◌∙◌, ℕ, pos, true, false, codes, List, [], ◌∷◌, Ok, Err, sym, true≢false}
use Rattle.stitch_trace.proofs.Names.{list_all, NumberedAct, Command, Point, DesignValue, DrawingValue, DrawKind, acts_of, blocks_of, links_in, needle_moves_of, new_links_of, is_sewn, BlockLink, CountsAreLimits, IsCountLimit, LinksAreDrawn, LinksAreSteps, NewLinksAreDistinct, are_distinct, drawn_links, is_one_step, sewn_links, traced}
use Rattle.design_model.specs.Designs.{KeepsLimits}
use Rattle.design_model.specs.declared.command.Command.TheVariants as command
use Rattle.line_graph.specs.declared.draw_kind.DrawKind.TheVariants as kind
use Rattle.stitch_trace.specs.TraceTheorems.{AreDistinctLinks}
use Rattle.stitch_trace.specs.declared.trace_fault.TraceFault.TheVariants as fault

-- the point with those numbers
abbrev at : ℕ → ℕ → Point
at x y = record { x = pos x; y = pos y }

-- a stitch to that point
abbrev stitch : ℕ → ℕ → Command
stitch x y = command.Stitch (at x y)

-- a line there and back in the first block, a block without a link, and a line in the third block
abbrev design : DesignValue
design = record {
  label = codes "rose";
  threads = 9 ∷ [];
  commands = stitch 0 0 ∷ stitch 10 0 ∷ stitch 10 5 ∷ stitch 10 0 ∷ command.Stop ∷ stitch 3 3 ∷ command.Stop ∷ stitch 7 0 ∷ stitch 0 0 ∷ [];
}

-- a link of a block
abbrev link_in : ℕ → Point → Point → BlockLink
link_in block p q = record { block = block; link = record { from = p; to = q } }

-- each drawing traced from the design has its three links in this order, each once
pub applied_links : LinksAreDrawn → (drawing : DrawingValue) → traced design ≡ Ok drawing
    → drawn_links drawing.lines
    ≡ link_in 0 (at 0 0) (at 10 0) ∷ link_in 0 (at 10 0) (at 10 5) ∷ link_in 1 (at 7 0) (at 0 0) ∷ []
applied_links law drawing is = law design drawing is

-- the segments of a traced drawing are no other links, and not as many others
pub refuted_links : LinksAreDrawn → (d : DesignValue) (drawing : DrawingValue) (other : List BlockLink) → traced d ≡ Ok drawing
    → other ≢ sewn_links 0 (blocks_of (acts_of d)) → drawn_links drawing.lines ≡ other → ⊥
refuted_links law d drawing other is differ links = differ (sym links ∙ law d drawing is)

-- no segment of a traced drawing is more than one step
pub refuted_steps : LinksAreSteps → (d : DesignValue) (drawing : DrawingValue) → KeepsLimits d → traced d ≡ Ok drawing
    → list_all (is_one_step drawing.step) (drawn_links drawing.lines) ≡ false → ⊥
refuted_steps law d drawing limits is more = true≢false (sym (law d drawing limits is) ∙ more)

-- no two new links of a block are equal
pub refuted_distinct : (acts : List NumberedAct) → AreDistinctLinks acts → are_distinct (new_links_of acts) ≡ false → ⊥
refuted_distinct acts are is = true≢false (sym are.distinct ∙ is)

-- no link of a block is missing among its new links
pub refuted_missing : (acts : List NumberedAct) → AreDistinctLinks acts
    → list_all (is_sewn (new_links_of acts)) (links_in (needle_moves_of acts)) ≡ false → ⊥
refuted_missing acts are is = true≢false (sym are.all ∙ is)

-- the new links of each block are its distinct links
pub refuted_new_links : NewLinksAreDistinct → (acts : List NumberedAct) → (AreDistinctLinks acts → ⊥) → ⊥
refuted_new_links law acts never = never (law acts)

-- no limit but those of blocks, lines and points leaves a design without a traced drawing
pub refuted_limit : CountsAreLimits → (d : DesignValue) (why : DrawKind) → KeepsLimits d → (IsCountLimit why → ⊥)
    → traced d ≡ Err (fault.Limit why) → ⊥
refuted_limit law d why limits never is = never (law d why limits is)

-- no design has too many steps for its traced drawing
pub refuted_cost : CountsAreLimits → (d : DesignValue) → KeepsLimits d → traced d ≡ Err (fault.Limit kind.TooMuchCost) → ⊥
refuted_cost law d limits is = law d kind.TooMuchCost limits is

-- no traced drawing is refused for a point that repeats the one before
pub refuted_repeat : CountsAreLimits → (d : DesignValue) → KeepsLimits d → traced d ≡ Err (fault.Limit kind.RepeatedPoint) → ⊥
refuted_repeat law d limits is = law d kind.RepeatedPoint limits is

-- the theorem on limits excludes all kinds of faults but three
pub known_no_counts : (IsCountLimit kind.OutOfRange → ⊥) × (IsCountLimit kind.FewPoints → ⊥) × (IsCountLimit kind.EmptyBlock → ⊥)
    × (IsCountLimit kind.NoBlock → ⊥) × (IsCountLimit kind.NoJunction → ⊥) × (IsCountLimit kind.EndRepeated → ⊥)
    × (IsCountLimit kind.BadHeader → ⊥) × (IsCountLimit kind.BadWord → ⊥) × (IsCountLimit kind.BadNumber → ⊥)
known_no_counts = (λ is. is, λ is. is, λ is. is, λ is. is, λ is. is, λ is. is, λ is. is, λ is. is, λ is. is)
