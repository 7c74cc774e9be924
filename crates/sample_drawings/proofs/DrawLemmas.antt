-- What is drawn one after another is at its index.
use Rattle.std.proofs.Common.{◌≡◌, ℕ, ◌+◌, ◌*◌, ◌/◌, ◌%◌, ◌<◌, suc, List, [], ◌∷◌, ◌++◌, length, get_or, ap, sym, ◌∙◌, refl, arith}
use Rattle.std.proofs.Math.Path.{ap₂}
use Rattle.std.proofs.lemmas.List.FromFn.{get_or-map-range_with_len, length-map-range_with_len, map-range_with_len_more}
use Rattle.sample_drawings.proofs.Names.{div-add-mod', div-mul-add, mod-mul-add, mul-add-lt, Point, next_state, state_after, by_index, in_square, moved_junction, cells_per_side, cell_kind, grid_junction, junctions_per_side, junction_draws}

-- the state after one draw more
state_one : (number draws : ℕ) → state_after number (draws + 1) ≡ next_state (state_after number draws)
state_one number draws = let next : draws + 1 ≡ suc draws = omega arith in rw next refl

-- and after two
state_two : (number draws : ℕ) → state_after number (draws + 2) ≡ next_state (next_state (state_after number draws))
state_two number draws = let next : draws + 2 ≡ suc (suc draws) = omega arith in rw next refl

-- the state after the two draws of a junction
pub state_moved : (number place state after : ℕ) → state ≡ state_after number (2 * place)
    → after ≡ next_state (next_state state) → after ≡ state_after number (2 * (place + 1))
state_moved number place state after at is =
    let next : 2 * (place + 1) ≡ 2 * place + 2 = omega arith in rw next (rw at at is ∙ sym (state_two number (2 * place)))

-- and after the draw of a cell
pub state_told : (number before place state after : ℕ) → state ≡ state_after number (before + place)
    → after ≡ next_state state → after ≡ state_after number (before + (place + 1))
state_told number before place state after at is =
    let next : before + (place + 1) ≡ before + place + 1 = omega arith in
    rw next (rw at at is ∙ sym (state_one number (before + place)))

-- the junction of a place is drawn after those of all places before it
pub junction_drawn : (number place : ℕ)
    → moved_junction (state_after number (2 * place)) (place % junctions_per_side number) (place / junctions_per_side number)
    ≡ grid_junction number (place % junctions_per_side number) (place / junctions_per_side number)
junction_drawn number place =
    let w = junctions_per_side number in
    rw (div-add-mod' place w, state_one number (2 * place), state_two number (2 * place)) refl

-- and the kind of a cell after those of all places before it
pub kind_drawn : (number place : ℕ)
    → next_state (state_after number (junction_draws number + place)) % 4
    ≡ cell_kind number (place % cells_per_side number) (place / cells_per_side number)
kind_drawn number place =
    let before = junction_draws number in
    rw (div-add-mod' place (cells_per_side number), state_one number (before + place)) refl

-- so is the junction that is drawn next
pub junction_next : (number columns place state : ℕ) (p : Point) → columns ≡ junctions_per_side number
    → state ≡ state_after number (2 * place) → p ≡ moved_junction state (place % columns) (place / columns)
    → p ≡ grid_junction number (place % junctions_per_side number) (place / junctions_per_side number)
junction_next number columns place state p wide at is = rw (wide, at) at is ∙ junction_drawn number place

-- and the kind that is drawn next
pub kind_next : (number place state kind : ℕ) → state ≡ state_after number (junction_draws number + place) → kind ≡ next_state state % 4
    → kind ≡ cell_kind number (place % cells_per_side number) (place / cells_per_side number)
kind_next number place state kind at is = rw at at is ∙ kind_drawn number place

-- one place more
pub place_added : {T : Type 0} (columns n : ℕ) (make : ℕ → ℕ → T) (xs ys : List T) (x : T) → xs ≡ by_index columns make n
    → x ≡ make (n % columns) (n / columns) → ys ≡ xs ++ x ∷ [] → ys ≡ by_index columns make (n + 1)
place_added columns n make xs ys x are is pushed =
    pushed
    ∙ (ap₂ (λ zs z. zs ++ z ∷ []) are is
    ∙ sym (map-range_with_len_more (λ m. make (m % columns) (m / columns)) 0 n n (omega arith)))

-- the place of a column and a row is there
pub place_there : {T : Type 0} (columns width i j : ℕ) (make : ℕ → ℕ → T) (xs : List T) → width ≡ columns
    → xs ≡ in_square columns make → i < columns → j < columns → j * width + i < length xs
place_there columns width i j make xs wide are column row =
    let length_is = ap length are
    ∙ length-map-range_with_len (λ m. make (m % columns) (m / columns)) 0 (columns * columns) in
    rw wide (omega (arith, length_is, mul-add-lt j columns i columns row column))

-- the item at the index is the one made for the column and the row
pub place_found : {T : Type 0} (columns width i j : ℕ) (make : ℕ → ℕ → T) (xs : List T) (d : T) → width ≡ columns
    → xs ≡ in_square columns make → i < columns → j < columns → get_or xs (j * width + i) d ≡ make i j
place_found columns width i j make xs d wide are column row =
    let at = j * columns + i in
    let below = mul-add-lt j columns i columns row column in
    let made = get_or-map-range_with_len (λ m. make (m % columns) (m / columns)) 0 (columns * columns) at at d below
    (omega arith) in
    let there : make (at % columns) (at / columns) ≡ make i j =
    rw (mod-mul-add j columns i column, div-mul-add j columns i column) refl in
    rw wide (ap (λ ys. get_or ys at d) are ∙ (made ∙ there))
