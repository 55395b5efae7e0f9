-- The reader after a source, the writer after a sink, and how often they have failed.
use Rattle.std.specs.Prelude.{ℕ}
use Rattle.kdf_io.specs.declared.read_from.ReadFrom.{ReadFrom}
use Rattle.kdf_io.specs.declared.write_to.WriteTo.{WriteTo}

abbrev pub reader_of : {R : Type 0} → ReadFrom R → R
reader_of source = source.reader

abbrev pub reader_faults : {R : Type 0} → ReadFrom R → ℕ
reader_faults source = source.faults.count

abbrev pub writer_of : {W : Type 0} → WriteTo W → W
writer_of sink = sink.writer

abbrev pub writer_faults : {W : Type 0} → WriteTo W → ℕ
writer_faults sink = sink.faults.count
