-- Which pairs a join has given, and which it owes: tests on two rows, in any state.
use Rattle.std.specs.Prelude.{ℕ, ◌==◌, nat_lt, nat_le, max, Bool, true, false, not, cond, ◌&&◌, ◌||◌, List, ◌++◌, length, map, flat_map, Option, Some, None, option_map}
use Rattle.answer_theory.specs.Pairs.{pairs}
use Rattle.answer_theory.specs.Rows.{lacked_values}
use Rattle.answer_theory.specs.Solutions.{only}
use Rattle.tuple_core.specs.Encoding.{row_encoding}
use Rattle.tuple_core.specs.Hashing.{bucket_of}
use Rattle.tuple_core.specs.Values.{RowList, RowValues}
use Rattle.row_match.specs.Shapes.{Shape, key_row}
use Rattle.row_match.specs.declared.shape.Side.{Side}
use Rattle.row_match.specs.declared.shape.Side.TheVariants as side
use Rattle.bucket_store.specs.Held.{Held, same_key}
use Rattle.join_core.specs.State.{Cursor, Joining, Pile, Probing, is_open, pile_for, rows_of}

-- the rows have equal keys
abbrev pub is_match : Held → Held → Bool
is_match l r = same_key l.key r.key

-- the number from which on a row isn't in memory; a row that comes into a closed bucket never is
abbrev pub memory_until : List Pile → Held → Option ℕ
memory_until piles h = option_map (max h.number) (pile_for piles h).closed

abbrev pub before : ℕ → Option ℕ → Bool
before n None = true
before n (Some end) = nat_lt n end

-- when the later of the two came, the earlier one was in memory
abbrev pub have_met : Joining → Held → Held → Bool
have_met s l r = cond (nat_lt l.number r.number) (before r.number (memory_until s.left l)) (before l.number (memory_until s.right r))

-- the probe is that of the one row, and has still to come to the other one
abbrev pub pends : ℕ → Probing → Held → Held → Bool
pends count p mine theirs = ((bucket_of count mine.key == p.bucket) && (mine.number == p.number)) && nat_le p.from theirs.number

abbrev pub pends_on : Side → ℕ → Probing → Held → Held → Bool
pends_on side.Left count p l r = pends count p l r
pends_on side.Right count p l r = pends count p r l

abbrev pub is_pending_in : Option Probing → ℕ → Held → Held → Bool
is_pending_in None count l r = false
is_pending_in (Some p) count l r = pends_on p.side count p l r

abbrev pub is_pending : Joining → Held → Held → Bool
is_pending s l r = is_pending_in s.probe (length s.left) l r

-- the clean-up has passed the pair of two rows of a bucket
abbrev pub is_behind : ℕ → Cursor → Held → Held → Bool
is_behind bucket c l r = nat_lt bucket c.bucket || ((bucket == c.bucket) && (nat_lt l.number c.start || (nat_lt l.number c.stop && (nat_lt r.number c.right || ((r.number == c.right) && nat_lt l.number c.left)))))

abbrev pub is_passed : Joining → Held → Held → Bool
is_passed s l r = is_behind (bucket_of (length s.left) l.key) s.cursor l r

-- The pair was given: it met in memory and the probe has come to it, or it didn't meet and the clean-up has passed it.
abbrev pub is_given : Joining → Held → Held → Bool
is_given s l r = is_match l r && cond (have_met s l r) (not (is_pending s l r)) (is_passed s l r)

-- the pair is still to be given
abbrev pub is_owed : Joining → Held → Held → Bool
is_owed s l r = is_match l r && not (is_given s l r)

-- the rows have one bucket, which was closed on a side, and the clean-up hasn't passed the pair
abbrev pub is_left_over : Joining → Held → Held → Bool
is_left_over s l r = (bucket_of (length s.left) l.key == bucket_of (length s.right) r.key) && (not (is_open (pile_for s.left l) && is_open (pile_for s.right r)) && not (is_passed s l r))

abbrev pub pairs_that : (Held → Held → Bool) → Joining → List (Held × Held)
pairs_that test s = pairs test (rows_of s.left) (rows_of s.right)

abbrev pub pairs_given : Joining → List (Held × Held)
pairs_given s = pairs_that (is_given s) s

abbrev pub pairs_owed : Joining → List (Held × Held)
pairs_owed s = pairs_that (is_owed s) s

-- the matches that the probe under way has still to give
abbrev pub pairs_pending : Joining → List (Held × Held)
pairs_pending s = pairs_that (λ l r. is_match l r && (have_met s l r && is_pending s l r)) s

-- the left values, and the right's values of variables that the left lacks
abbrev pub glued : Shape → RowValues → RowValues → RowValues
glued shape l r = l ++ lacked_values shape.left shape.right r

-- the pairs that are left for the clean-up
abbrev pub pairs_left_over : Joining → List (Held × Held)
pairs_left_over s = pairs_that (is_left_over s) s

-- the rows that the join has given
abbrev pub given_rows : Joining → RowList
given_rows s = map (λ p. glued s.shape p.0.row p.1.row) (pairs_given s)

-- rows of two sides have equal keys
abbrev pub keys_meet : Shape → RowValues → RowValues → Bool
keys_meet shape l r = same_key (row_encoding (key_row side.Left shape l)) (row_encoding (key_row side.Right shape r))

-- what a join of two lists of rows gives: each left row glued to each right row of an equal key
abbrev pub joined_rows : Shape → RowList → RowList → RowList
joined_rows shape ls rs = flat_map (λ l. flat_map (λ r. only (keys_meet shape l r) (glued shape l r)) rs) ls
