-- The bands on a line show its load, and what is drawn of a cut.
use Rattle.std.proofs.Common.{◌≡◌, ◌≤◌, ℕ, ◌+◌, ◌*◌, Bool, true, false, if◌then◌else◌, List, [], ◌∷◌, ◌++◌, drop, length, map, reverse, sum_by, arith, refl, ap, ◌∙◌}
use Rattle.drawing_picture.proofs.Names.{sum_by-cons, filter, flat_map, Point, band_length, Band, bands_from, half_steps_from, band_text, DrawingValue, Cut, nat_tests, append_assoc, length-drop, length-reverse, length-take-le, BandsShowLoads, band_along, half_steps_of_line, crosses, has_member, load_on}
use Rattle.drawing_picture.specs.Bands.{half_steps}
use Rattle.line_graph.specs.declared.edge.Edge.{Edge}
use Rattle.line_graph.specs.LineNeedles.{NeedlesLeadAlong, cost_of_line, needles_of_line}

-- the load of one cut
abbrev share : Edge → Cut → ℕ
share e cut = if crosses cut.members e then cut.weight else 0

-- what bands from a number on show of cuts on an edge
record Show (cuts : List Cut) (e : Edge) (bands : List Band) : Type 0 where
  each : map (λ (band : Band). band.cut) bands ≡ filter (λ (cut : Cut). crosses cut.members e) cuts
  weights : map band_length bands ≡ map (λ (cut : Cut). cut.weight) (filter (λ (cut : Cut). crosses cut.members e) cuts)
  load : sum_by band_length bands ≡ load_on cuts e

-- a cut with a band, and one without
record Shown (cut : Cut) (rest : List Cut) (e : Edge) (band : Band) (bands : List Band) : Type 0 where
  is_cut : band.cut ≡ cut
  long : band_length band ≡ cut.weight
  leads : crosses cut.members e ≡ true
  more : Show rest e bands

with_band : (cut : Cut) (rest : List Cut) (e : Edge) (band : Band) (bands : List Band) → Shown cut rest e band bands
    → Show (cut ∷ rest) e (band ∷ bands)
with_band cut rest e band bands is = record {
  each = rw is.leads (ap (λ (c : Cut). c ∷ map (λ (b : Band). b.cut) bands) is.is_cut ∙ ap (λ (cs : List Cut). cut ∷ cs) is.more.each);
  weights = rw is.leads (ap (λ (n : ℕ). n ∷ map band_length bands) is.long ∙ ap (λ (ns : List ℕ). cut.weight ∷ ns) is.more.weights);
  load =
      let here : share e cut ≡ cut.weight = rw is.leads refl in
      added (sum_by band_length (band ∷ bands)) (band_length band) (sum_by band_length bands) (load_on (cut ∷ rest) e) (share e cut)
      (load_on rest e) cut.weight (sum_by-cons band_length band bands) (sum_by-cons (share e) cut rest) is.long here is.more.load;
}
  where
    added : (a b c x y z w : ℕ) → a ≡ b + c → x ≡ y + z → b ≡ w → y ≡ w → c ≡ z → a ≡ x
    added a b c x y z w p q r s t = omega (arith, p, q, r, s, t)

without_band : (cut : Cut) (rest : List Cut) (e : Edge) (bands : List Band) → crosses cut.members e ≡ false → Show rest e bands
    → Show (cut ∷ rest) e bands
without_band cut rest e bands is more = record {
  each = rw is more.each;
  weights = rw is more.weights;
  load =
      let here : share e cut ≡ 0 = rw is refl in
      omega (arith, sum_by-cons (share e) cut rest, here, more.load);
}

-- the load of the first cut and of the rest
load_first : (cut : Cut) (rest : List Cut) (e : Edge) → load_on (cut ∷ rest) e ≡ share e cut + load_on rest e
load_first cut rest e = sum_by-cons (share e) cut rest

shows : (number : ℕ) (cuts : List Cut) (e : Edge) (ahead back : List Point) → load_on cuts e + 1 ≤ length ahead
    → load_on cuts e + 1 ≤ length back → Show cuts e (bands_from number cuts e ahead back)
shows number [] e ahead back front behind = record { each = refl; weights = refl; load = refl }
shows number (cut ∷ rest) e ahead back front behind =
    by (has_member cut.members e.a) (has_member cut.members e.b) refl refl (λ ahead' back'. shows (number + 1) rest e ahead' back')
  where
    by : (first last : Bool) → has_member cut.members e.a ≡ first → has_member cut.members e.b ≡ last
        → ((ahead' back' : List Point) → load_on rest e + 1 ≤ length ahead' → load_on rest e + 1 ≤ length back'
        → Show rest e (bands_from (number + 1) rest e ahead' back'))
        → Show (cut ∷ rest) e (bands_from number (cut ∷ rest) e ahead back)
    by true true is_first is_last more =
        let leads : crosses cut.members e ≡ false = rw (is_first, is_last) refl in
        let here : share e cut ≡ 0 = rw leads refl in
        rw (is_first, is_last) (without_band cut rest e (bands_from (number + 1) rest e ahead back) leads
        (more ahead back (omega (arith, load_first cut rest e, here, front)) (omega (arith, load_first cut rest e, here, behind))))
    by true false is_first is_last more =
        let leads : crosses cut.members e ≡ true = rw (is_first, is_last) refl in
        let here : share e cut ≡ cut.weight = rw leads refl in
        rw (is_first, is_last) (with_band cut rest e (band_along number cut ahead)
        (bands_from (number + 1) rest e (drop cut.weight ahead) back) (record {
          is_cut = refl;
          long = grind (arith, nat_tests, length-take-le, cut.weight, load_first cut rest e, here, front);
          leads = leads;
          more = more (drop cut.weight ahead) back
              (omega (arith, load_first cut rest e, here, front, length-drop cut.weight ahead))
              (omega (arith, load_first cut rest e, here, behind));
        }))
    by false true is_first is_last more =
        let leads : crosses cut.members e ≡ true = rw (is_first, is_last) refl in
        let here : share e cut ≡ cut.weight = rw leads refl in
        rw (is_first, is_last) (with_band cut rest e (band_along number cut back)
        (bands_from (number + 1) rest e ahead (drop cut.weight back)) (record {
          is_cut = refl;
          long = grind (arith, nat_tests, length-take-le, cut.weight, load_first cut rest e, here, behind);
          leads = leads;
          more = more ahead (drop cut.weight back)
              (omega (arith, load_first cut rest e, here, front))
              (omega (arith, load_first cut rest e, here, behind, length-drop cut.weight back));
        }))
    by false false is_first is_last more =
        let leads : crosses cut.members e ≡ false = rw (is_first, is_last) refl in
        let here : share e cut ≡ 0 = rw leads refl in
        rw (is_first, is_last) (without_band cut rest e (bands_from (number + 1) rest e ahead back) leads
        (more ahead back (omega (arith, load_first cut rest e, here, front)) (omega (arith, load_first cut rest e, here, behind))))

-- two half steps for each further needle point
half_steps_count : (p : Point) (rest : List Point) → length (half_steps_from p rest) ≡ 2 * length rest + 1
half_steps_count p [] = refl
half_steps_count p (q ∷ rest) = omega (arith, half_steps_count q rest)

line_count_of : (points : List Point) (cost : ℕ) → length points ≡ cost + 1 → length (half_steps points) ≡ 2 * cost + 1
line_count_of [] cost is = absurd (omega (arith, is))
line_count_of (p ∷ rest) cost is = omega (arith, half_steps_count p rest, is)

pub bands_show : ((d : DrawingValue) → NeedlesLeadAlong d) → BandsShowLoads
bands_show needles d cuts line e keeps there few =
    let count : length (half_steps_of_line d line) ≡ 2 * cost_of_line d line + 1 =
    line_count_of (needles_of_line d line) (cost_of_line d line) (needles d line keeps there).count in
    let is = shows 0 cuts e (half_steps_of_line d line) (reverse (half_steps_of_line d line)) (omega (arith, few, count))
    (omega (arith, few, count, length-reverse (half_steps_of_line d line))) in
    record { each = is.each; weights = is.weights; load = is.load; room = omega (arith, is.load, few) }

-- a band is added, and those that are left
adds_band : (text text' : List ℕ) (band : Band) (bands : List Band) → text' ≡ text ++ band_text band
    → text' ++ flat_map band_text bands ≡ text ++ flat_map band_text (band ∷ bands)
adds_band text text' band bands is =
    ap (λ t. t ++ flat_map band_text bands) is ∙ append_assoc text (band_text band) (flat_map band_text bands)

-- the band of a cut that holds the first end alone, the last end alone, both or neither
module _ (text : List ℕ) (number : ℕ) (cut : Cut) (e : Edge) (ahead back : List Point) where
  pub band_ahead : (text' : List ℕ) (free : List Point) → has_member cut.members e.a ≡ true → has_member cut.members e.b ≡ false
      → text' ≡ text ++ band_text (band_along number cut ahead) → free ≡ drop cut.weight ahead → (rest : List Cut)
      → text' ++ flat_map band_text (bands_from (number + 1) rest e free back)
      ≡ text ++ flat_map band_text (bands_from number (cut ∷ rest) e ahead back)
  band_ahead text' free first last added is rest =
      ap (λ (f : List Point). text' ++ flat_map band_text (bands_from (number + 1) rest e f back)) is
      ∙ rw (first, last) (adds_band text text' (band_along number cut ahead)
      (bands_from (number + 1) rest e (drop cut.weight ahead) back) added)

  pub band_back : (text' : List ℕ) (free : List Point) → has_member cut.members e.a ≡ false → has_member cut.members e.b ≡ true
      → text' ≡ text ++ band_text (band_along number cut back) → free ≡ drop cut.weight back → (rest : List Cut)
      → text' ++ flat_map band_text (bands_from (number + 1) rest e ahead free)
      ≡ text ++ flat_map band_text (bands_from number (cut ∷ rest) e ahead back)
  band_back text' free first last added is rest =
      ap (λ (f : List Point). text' ++ flat_map band_text (bands_from (number + 1) rest e ahead f)) is
      ∙ rw (first, last) (adds_band text text' (band_along number cut back)
      (bands_from (number + 1) rest e ahead (drop cut.weight back)) added)
