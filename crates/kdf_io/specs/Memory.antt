-- What callers see of a source and of a sink over memory.
use Rattle.std.specs.Prelude.{ℕ, List, [], ◌∷◌, drop}
use Rattle.kdf_io.specs.declared.memory_source.MemorySource.{MemorySource}
use Rattle.kdf_io.specs.declared.memory_sink.MemorySink.{MemorySink}

-- a source over memory
pub record Input : Type 0 where
  pub left : List ℕ
  pub most : ℕ  -- at most so many bytes a read
  pub fail : List ℕ  -- the numbers of the calls that fail, counted from 1
  pub calls : ℕ  -- made so far
  pub faults : ℕ

abbrev pub input_of : MemorySource → Input
input_of s =
    record {
      left = drop s.at s.bytes.items;
      most = s.most;
      fail = s.calls.fail.items;
      calls = s.calls.made;
      faults = s.calls.faults;
    }

-- a sink over memory
pub record Output : Type 0 where
  pub written : List ℕ
  pub room : ℕ  -- for so many bytes in all
  pub most : ℕ  -- at most so many bytes a put
  pub fail : List ℕ  -- the numbers of the calls that fail, counted from 1
  pub calls : ℕ  -- made so far
  pub faults : ℕ

abbrev pub output_of : MemorySink → Output
output_of s =
    record {
      written = s.bytes.items;
      room = s.room;
      most = s.most;
      fail = s.calls.fail.items;
      calls = s.calls.made;
      faults = s.calls.faults;
    }

-- so many bytes more go without a fault: none are promised where some calls are to fail
abbrev pub sure_room : List ℕ → ℕ → ℕ
sure_room [] room = room
sure_room (_ ∷ _) room = 0
