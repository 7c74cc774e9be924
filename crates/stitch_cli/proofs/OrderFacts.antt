-- Worked values of complete requests.
use Rattle.std.proofs.Common.{◌≡◌, ℕ, List, [], ◌∷◌, Some, None, refl}
use Rattle.std.specs.Prelude.{codes}
use Rattle.stitch_cli.proofs.Names.{cut, split, move, Meaning, outputs_of, checking, hooping, migrating, rewriting, sampling, sewing, showing, tracing, order_of}
use Rattle.design_edits.specs.declared.motion.Motion.TheVariants as motion
use Rattle.route_verdict.specs.declared.sewing_ways.Sewing.TheVariants as ways

-- a format with another ending
abbrev ending_as : Meaning → List ℕ → Meaning
ending_as format ending = record format { ending = ending }

-- two formats
abbrev dst_and_exp : Meaning → List Meaning
dst_and_exp format = ending_as format (codes "dst") ∷ ending_as format (codes "exp") ∷ []

-- the format is that of the name's ending, in capitals or not
pub known_show : (m : Meaning) → order_of (dst_and_exp m) (codes "show" ∷ codes "a.EXP" ∷ [])
    ≡ Some (showing (record { file = codes "a.EXP"; format = ending_as m (codes "exp") }))
known_show m = refl

pub known_other_ending : (m : Meaning) → order_of (dst_and_exp m) (codes "show" ∷ codes "a.jef" ∷ []) ≡ None
known_other_ending m = refl

pub known_no_ending : (m : Meaning) → order_of (dst_and_exp m) (codes "show" ∷ codes "exp" ∷ []) ≡ None
known_no_ending m = refl

-- of a route the output alone has a format, and no two names are equal
pub known_route : (m : Meaning) → order_of (dst_and_exp m) (codes "route" ∷ codes "a" ∷ codes "b.dst" ∷ codes "c" ∷ [])
    ≡ Some (sewing ways.Route (record {
      drawing = codes "a";
      out = codes "b.dst";
      cert = codes "c";
      format = ending_as m (codes "dst");
    }))
known_route m = refl

pub known_route_onto_drawing : (m : Meaning)
    → order_of (dst_and_exp m) (codes "route" ∷ codes "a.dst" ∷ codes "a.dst" ∷ codes "c" ∷ []) ≡ None
known_route_onto_drawing m = refl

pub known_certificate_onto_design : (m : Meaning)
    → order_of (dst_and_exp m) (codes "route" ∷ codes "a" ∷ codes "b.dst" ∷ codes "b.dst" ∷ []) ≡ None
known_certificate_onto_design m = refl

pub known_certificate_onto_drawing : (m : Meaning)
    → order_of (dst_and_exp m) (codes "route" ∷ codes "a" ∷ codes "b.dst" ∷ codes "a" ∷ []) ≡ None
known_certificate_onto_drawing m = refl

-- a migration needs no format, and two names
pub known_migrate : (m : Meaning) → order_of (dst_and_exp m) (codes "migrate" ∷ codes "a.rw" ∷ codes "b" ∷ [])
    ≡ Some (migrating (record { input = codes "a.rw"; output = codes "b" }))
known_migrate m = refl

pub known_migration_onto_itself : (m : Meaning) → order_of (dst_and_exp m) (codes "migrate" ∷ codes "a.rw" ∷ codes "a.rw" ∷ []) ≡ None
known_migration_onto_itself m = refl

-- a tracing needs a format of the file alone, and two names
pub known_trace : (m : Meaning) → order_of (dst_and_exp m) (codes "trace" ∷ codes "a.exp" ∷ codes "b" ∷ [])
    ≡ Some (tracing (record { file = codes "a.exp"; drawing = codes "b"; format = ending_as m (codes "exp") }))
known_trace m = refl

pub known_tracing_onto_itself : (m : Meaning) → order_of (dst_and_exp m) (codes "trace" ∷ codes "a.exp" ∷ codes "a.exp" ∷ []) ≡ None
known_tracing_onto_itself m = refl

-- a double run has the conditions of a route, and writes as it does
pub known_double : (m : Meaning) → order_of (dst_and_exp m) (codes "double" ∷ codes "a" ∷ codes "b.exp" ∷ codes "c" ∷ [])
    ≡ Some (sewing ways.Double (record {
      drawing = codes "a";
      out = codes "b.exp";
      cert = codes "c";
      format = ending_as m (codes "exp");
    }))
known_double m = refl

pub known_double_onto_drawing : (m : Meaning)
    → order_of (dst_and_exp m) (codes "double" ∷ codes "a" ∷ codes "b.dst" ∷ codes "a" ∷ []) ≡ None
known_double_onto_drawing m = refl

pub known_double_outputs : (m : Meaning)
    → outputs_of (sewing ways.Double (record { drawing = codes "a"; out = codes "b"; cert = codes "c"; format = m }))
    ≡ codes "c" ∷ codes "b" ∷ []
known_double_outputs m = refl

-- a conversion reads by the format of the first name and writes by that of the second
pub known_convert : (m : Meaning)
    → order_of (dst_and_exp m) (codes "convert" ∷ codes "a.exp" ∷ codes "b.dst" ∷ codes "--cut" ∷ codes "--split" ∷ [])
    ≡ Some (rewriting (record {
      input = codes "a.exp";
      output = codes "b.dst";
      source = ending_as m (codes "exp");
      target = ending_as m (codes "dst");
      changes = split ∷ cut ∷ [];
    }))
known_convert m = refl

pub known_convert_onto_itself : (m : Meaning)
    → order_of (dst_and_exp m) (codes "convert" ∷ codes "a.dst" ∷ codes "a.dst" ∷ []) ≡ None
known_convert_onto_itself m = refl

pub known_convert_from_none : (m : Meaning)
    → order_of (dst_and_exp m) (codes "convert" ∷ codes "a.jef" ∷ codes "b.dst" ∷ []) ≡ None
known_convert_from_none m = refl

pub known_convert_to_none : (m : Meaning)
    → order_of (dst_and_exp m) (codes "convert" ∷ codes "a.dst" ∷ codes "b.jef" ∷ []) ≡ None
known_convert_to_none m = refl

pub known_edit : (m : Meaning)
    → order_of (dst_and_exp m) (codes "edit" ∷ codes "a.dst" ∷ codes "b.dst" ∷ codes "turn=1" ∷ [])
    ≡ Some (rewriting (record {
      input = codes "a.dst";
      output = codes "b.dst";
      source = ending_as m (codes "dst");
      target = ending_as m (codes "dst");
      changes = move (motion.Turn 1) ∷ [];
    }))
known_edit m = refl

pub known_hoop : (m : Meaning) → order_of (dst_and_exp m) (codes "hoop" ∷ codes "a.dst" ∷ codes "40" ∷ codes "30" ∷ [])
    ≡ Some (hooping (record {
      file = codes "a.dst";
      format = ending_as m (codes "dst");
      width = 40;
      height = 30;
    }))
known_hoop m = refl

-- a check reads by the format of the design, and its names need not differ
pub known_check : (m : Meaning) → order_of (dst_and_exp m) (codes "check" ∷ codes "a" ∷ codes "b.exp" ∷ codes "c.dst" ∷ [])
    ≡ Some (checking (record {
      drawing = codes "a";
      file = codes "b.exp";
      cert = codes "c.dst";
      format = ending_as m (codes "exp");
    }))
known_check m = refl

pub known_check_of_one_file : (m : Meaning) → order_of (dst_and_exp m) (codes "check" ∷ codes "b.exp" ∷ codes "b.exp" ∷ codes "b.exp" ∷ [])
    ≡ Some (checking (record {
      drawing = codes "b.exp";
      file = codes "b.exp";
      cert = codes "b.exp";
      format = ending_as m (codes "exp");
    }))
known_check_of_one_file m = refl

pub known_check_of_no_format : (m : Meaning)
    → order_of (dst_and_exp m) (codes "check" ∷ codes "a" ∷ codes "b.jef" ∷ codes "c.dst" ∷ []) ≡ None
known_check_of_no_format m = refl

-- A sample needs no format; leading zeros of its number are ignored.
pub known_sample : (m : Meaning) → order_of (dst_and_exp m) (codes "sample" ∷ codes "0075" ∷ codes "a.rw" ∷ [])
    ≡ Some (sampling (record { number = 75; drawing = codes "a.rw" }))
known_sample m = refl

pub known_sample_of_nothing : (m : Meaning) → order_of (dst_and_exp m) (codes "sample" ∷ codes "0" ∷ codes "a.rw" ∷ []) ≡ None
known_sample_of_nothing m = refl

-- the certificate of a route is written before its design; a sample writes its drawing
pub known_route_outputs : (m : Meaning)
    → outputs_of (sewing ways.Route (record { drawing = codes "a"; out = codes "b"; cert = codes "c"; format = m }))
    ≡ codes "c" ∷ codes "b" ∷ []
known_route_outputs m = refl

pub known_sample_outputs : outputs_of (sampling (record { number = 75; drawing = codes "a" })) ≡ codes "a" ∷ []
known_sample_outputs = refl

-- a check writes nothing
pub known_check_outputs : (m : Meaning)
    → outputs_of (checking (record { drawing = codes "a"; file = codes "b"; cert = codes "c"; format = m })) ≡ []
known_check_outputs m = refl
