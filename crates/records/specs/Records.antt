-- One row as a record of 18 bytes (request K1): mark, node, key id, highest id, marks; the node EUI[0] first as in a message, the other numbers low
-- byte first. Assumes nothing.
use Rattle.std.specs.Prelude.{ℕ, ◌%◌, ◌^◌, Bool, true, not, ◌&&◌, ◌||◌, cond, List, ◌++◌, eqb, leb, length}
use Rattle.wire.specs.Bytes.{little, big, little_bytes, big_bytes, part, front}
use Rattle.message.specs.Refusals.{nobody, bad_key_type}
use Rattle.window.specs.Rows.{marks_held}
use Rattle.window.specs.Rule.{bit_at}
use Rattle.window.specs.declared.Row.{Row}
use Rattle.table.specs.Table.{freed}

-- how long a record is
abbrev pub record_bytes : ℕ
record_bytes = 18

-- its mark, 52 57, as a number of two bytes
abbrev pub record_mark : ℕ
record_mark = 0x5752

-- the record of a row; bit 15 of its marks stands for no mark, and is zero in it
unfoldable pub record_of : Row → List ℕ
record_of row =
    little_bytes 2 record_mark
    ++ big_bytes 8 row.node
    ++ little_bytes 2 row.key
    ++ little_bytes 4 row.highest
    ++ little_bytes 2 (row.marks % 2 ^ marks_held)

-- the row that a record says: in use, with all that stands in its fields
unfoldable pub row_in : List ℕ → Row
row_in r =
    record {
      used = true;
      node = big (part r 2 8);
      key = little (part r 10 2);
      highest = little (part r 12 4);
      marks = little (part r 16 2);
    }

-- the row of the record at the front of bytes; free and zero where there are too few
unfoldable pub front_row : List ℕ → Row
front_row bytes = cond (leb record_bytes (length bytes)) (row_in bytes) freed

-- 23, of a record
abbrev pub wrong_mark : List ℕ → Bool
wrong_mark r = not (eqb (little (front 2 r)) record_mark)

-- 25, of the row that a record says: a node that 8 refuses, a key id neither 0 nor of type 1 or 2, or bit 15 set
abbrev pub bad_row : Row → Bool
bad_row row = nobody row.node || (not (eqb row.key 0) && bad_key_type row.key) || bit_at row.marks marks_held

-- 26, of two rows: they have one name
abbrev pub same_name : Row → Row → Bool
same_name a b = eqb a.node b.node && eqb a.key b.key
