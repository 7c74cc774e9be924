-- Worked values of plans: the file that each step reads, and a step of a drawing at the limit and above it.
use Rattle.std.proofs.Common.{ℕ, inl, [], None, Ok, codes, refl}
use Rattle.stitch_cli.proofs.Names.{Loaded, Meaning, DrawingValue, CheckOrder, check_design, check_drawing, check_plan, Refuses, Sewing, SewingOrder, IsSewnBy, AttemptsRead, IsAccepted, sewing_drawing}
use Rattle.program_texts.specs.DrawingTexts.{step_limit_text}

-- a check of three files
abbrev checked : Meaning → CheckOrder
checked format = record { drawing = codes "a"; file = codes "b"; cert = codes "c"; format = format }

-- the drawing is read first, then the design, then the certificate
pub known_drawing_first : (m : Meaning) → AttemptsRead (check_plan (checked m)) None (codes "a")
known_drawing_first m = inl refl

pub known_design_next : (m : Meaning) (d : DrawingValue) → AttemptsRead (check_drawing (checked m) (Ok d)) None (codes "b")
known_design_next m d = inl refl

pub known_certificate_last : (m : Meaning) (d : DrawingValue) (loaded : Loaded)
    → AttemptsRead (check_design (checked m) d (Ok loaded)) None (codes "c")
known_certificate_last m d loaded = inl refl

-- a route to a format whose limit is 121
abbrev routed : Meaning → SewingOrder
routed format = record {
  drawing = codes "a";
  out = codes "b";
  cert = codes "c";
  format = record format { ending = codes "dst"; limit = 121 };
}

-- a drawing without lines, of that longest stitch
abbrev stepping : ℕ → DrawingValue
stepping step = record { label = []; step = step; threads = []; lines = []; starts = []; ends = [] }

pub known_at_limit : (way : Sewing) (m : Meaning) → IsAccepted (sewing_drawing (IsSewnBy way) (routed m) (stepping 121)) None
known_at_limit way m = tt

pub known_above_limit : (way : Sewing) (m : Meaning)
    → Refuses (sewing_drawing (IsSewnBy way) (routed m) (stepping 122)) None (step_limit_text (codes "a") 122 121 (codes "dst"))
known_above_limit way m = refl
