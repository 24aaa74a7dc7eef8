use Rattle.std.specs.Prelude.{◌≡◌, ℕ, ◌-◌, [], List, length, Option, Some}
use Rattle.plan_base.specs.{MemoryFiles.files_of, Shelves.ShelfMeaning, Sinks.SinkMeaning}
pub use Rattle.plan_base.specs.{declared.memory_ends.MemoryShelf.MemoryShelf, declared.memory_ends.MemorySink.MemorySink}

-- what a shelf in memory holds under each name
abbrev pub shelf_files : MemoryShelf → List ℕ → Option (List ℕ)
shelf_files shelf = files_of shelf.files

-- the numbers of its reads that fail
abbrev pub shelf_fails : MemoryShelf → List ℕ
shelf_fails shelf = shelf.fail.items

-- how often it was read
abbrev pub shelf_reads : MemoryShelf → ℕ
shelf_reads shelf = shelf.reads

-- how often a name was missed, and how often reading failed
abbrev pub shelf_counts : MemoryShelf → ℕ × ℕ
shelf_counts shelf = (shelf.misses, shelf.faults)

-- a shelf in memory tells its files
abbrev pub shelf_meaning : MemoryShelf → ShelfMeaning
shelf_meaning shelf = record { files = Some (shelf_files shelf); misses = shelf.misses; faults = shelf.faults }

-- a sink in memory tells its bytes
abbrev pub sink_meaning : MemorySink → SinkMeaning
sink_meaning sink = record { bytes = Some sink.written.items; faults = sink.faults }

-- the bytes that were written to it
abbrev pub written_of : MemorySink → List ℕ
written_of sink = sink.written.items

-- the numbers of its writes that fail
abbrev pub sink_fails : MemorySink → List ℕ
sink_fails sink = sink.fail.items

-- how often it was written to
abbrev pub sink_writes : MemorySink → ℕ
sink_writes sink = sink.writes

-- how many bytes it takes at a time
abbrev pub sink_most : MemorySink → ℕ
sink_most sink = sink.most

-- how many bytes there is room left for
abbrev pub sink_left : MemorySink → ℕ
sink_left sink = sink.room - length sink.written.items

-- how often writing failed
abbrev pub sink_faults : MemorySink → ℕ
sink_faults sink = sink.faults

-- what no write changes: the room as a whole, how many bytes are taken at a time, and which writes fail
pub record KeepsSink (old new : MemorySink) : Type 0 where
  pub room_is : new.room ≡ old.room
  pub most_is : new.most ≡ old.most
  pub fail_is : new.fail.items ≡ old.fail.items

-- nothing has been written yet
pub record IsEmptySink (room most : ℕ) (fail : List ℕ) (sink : MemorySink) : Type 0 where
  pub bytes : sink.written.items ≡ []
  pub room_is : sink.room ≡ room
  pub most_is : sink.most ≡ most
  pub fail_is : sink.fail.items ≡ fail
  pub writes : sink.writes ≡ 0
  pub faults : sink.faults ≡ 0
