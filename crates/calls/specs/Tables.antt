-- The sizes of what a call is lent, and the tables of a chart. Definitions only.
use Rattle.std.specs.Prelude.{List, ◌++◌, ℕ, ◌/◌, min, Float, length, take, drop}

-- numbers of an entry of the record table, and of the value table
abbrev pub record_width : ℕ
record_width = 16

abbrev pub value_width : ℕ
value_width = 5

-- numbers of an entry of the list of order 10: aim, aim without sliders, speed, flashlight
abbrev pub totals_width : ℕ
totals_width = 4

-- "scratch below 8,192 numbers per skill"
abbrev pub least_scratch : ℕ
least_scratch = 8192

-- the whole entries of a table of records, r numbers long, of one of values, v numbers long, and of the shorter of the two
abbrev pub record_entries : ℕ → ℕ
record_entries r = r / record_width

abbrev pub value_entries : ℕ → ℕ
value_entries v = v / value_width

abbrev pub entries_of : ℕ → ℕ → ℕ
entries_of r v = min (record_entries r) (value_entries v)

-- a table that a call borrows (document 01: is lent): the one which the opening filled, as it stands; the first numbers of it; or another
pub data Borrowed : Type 0 where
  own : Borrowed
  front : ℕ → Borrowed
  foreign : List Float → Borrowed

-- it is the opening's
abbrev pub IsOwn : Borrowed → Type 0
IsOwn own = Unit {0}
IsOwn (front n) = Unit {0}
IsOwn (foreign t) = ⊥

-- its contents, where t is the one which the opening filled
unfoldable pub contents : Borrowed → List Float → List Float
contents own t = t
contents (front n) t = take n t
contents (foreign t') t = t'

-- its length, where the one which the opening filled is n long
unfoldable pub length_of : Borrowed → ℕ → ℕ
length_of own n = n
length_of (front m) n = min m n
length_of (foreign t') n = length t'

-- the opening's table t after a call that leaves x of the one it borrows
unfoldable pub table_after : Borrowed → List Float → List Float → List Float
table_after own x t = x
table_after (front n) x t = x ++ drop n t
table_after (foreign t') x t = t
