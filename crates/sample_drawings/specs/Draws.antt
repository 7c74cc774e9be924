-- The random numbers of the sample drawings, from a linear congruential generator. Own rules.
use Rattle.std.specs.Prelude.{ℕ, ◌+◌, ◌*◌, ◌%◌, zero, suc}

-- The generator's next state.
abbrev pub next_state : ℕ → ℕ
next_state state = (75 * state + 74) % 65537

-- The generator's state after the given number of draws. The first state is the drawing's number.
abbrev pub state_after : ℕ → ℕ → ℕ
state_after number zero = number
state_after number (suc draws) = next_state (state_after number draws)

-- The number below the limit that the draw of the given number results in. Draws are numbered from
-- 1.
abbrev pub drawn_number : ℕ → ℕ → ℕ → ℕ
drawn_number number draw limit = state_after number draw % limit
