-- A writer and a reader that are watched while they are lent.
use Rattle.std.specs.Borrow.{MutBor}
use Rattle.sval_io.specs.declared.watched.WatchedWriter.{WatchedWriter}
use Rattle.sval_io.specs.declared.watched.WatchedReader.{WatchedReader}

-- the reference to the writer
abbrev pub watched_writer : {W N : Type 0} {writes : _} {watch : _} → WatchedWriter W N writes watch → MutBor W
watched_writer watched = watched.writer

-- the reader
abbrev pub watched_reader : {R N : Type 0} {reads : _} {watch : _} → WatchedReader R N reads watch → R
watched_reader watched = watched.reader
