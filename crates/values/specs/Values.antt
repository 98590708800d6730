-- The value that places say ("Writing"). Assumes nothing.
use Rattle.std.specs.Prelude.{ℕ, ◌^◌, Bool, not, ◌&&◌, cond, List, ltb, get_or, Option, Some, None}
use Rattle.message.specs.Value.{bits, bit}
use Rattle.message.specs.Refusals.{reserved}
use Rattle.message.specs.declared.value.Message.{Message}

-- a number of 16 bits, none of them set that no field has
abbrev pub clean_header : ℕ → Bool
clean_header h = ltb h (2 ^ 16) && not (reserved h)

-- each place holds a number that its field can hold; the nodes take any
unfoldable pub fits : List ℕ → Bool
fits fields =
    clean_header (get_or fields 0 0)
    && ltb (get_or fields 1 0) 8
    && ltb (get_or fields 2 0) (2 ^ 32)
    && ltb (get_or fields 5 0) (2 ^ 16)
    && ltb (get_or fields 6 0) 256
    && ltb (get_or fields 7 0) (2 ^ 16)
    && ltb (get_or fields 8 0) (2 ^ 32)
    && ltb (get_or fields 9 0) (2 ^ 32)

-- the value that the first ten places say: version, T, S, D and encrypt type by the header's bits, I, A and R by the flags'
unfoldable pub value_from : List ℕ → Message
value_from fields =
    record {
      version = bits (get_or fields 0 0) 12 4;
      tunnelled = bit (get_or fields 0 0) 10;
      sourced = bit (get_or fields 0 0) 9;
      destined = bit (get_or fields 0 0) 8;
      encrypt = bits (get_or fields 0 0) 4 4;
      id = get_or fields 2 0;
      source = get_or fields 3 0;
      destination = get_or fields 4 0;
      key = get_or fields 5 0;
      initiator = bit (get_or fields 1 0) 0;
      acknowledges = bit (get_or fields 1 0) 1;
      wants = bit (get_or fields 1 0) 2;
      kind = get_or fields 6 0;
      exchange = get_or fields 7 0;
      profile = get_or fields 8 0;
      acknowledged = get_or fields 9 0;
    }

-- the value, where every place fits
unfoldable pub load_of : List ℕ → Option Message
load_of fields = cond (fits fields) (Some (value_from fields)) None
