use Rattle.std.proofs.Common.{◌-◌, length, drop}
use Rattle.board_outside.specs.Files.{file_named}
use Rattle.outside_doubles.proofs.SliceLemmas.{short_in_front, count_in_front, bytes_in_front, rest_in_front}
use Rattle.outside_doubles.proofs.SliceLemmas.{unread_in_front}
use Rattle.outside_doubles.proofs.slow_shelf.SlowShelfShelf.fetch.Goals as goal

pub returns-clause-short : goal.returns-clause-short
returns-clause-short c =
    let file = file_named c.args.self.now.inner.files.items c.args.name.now in
    short_in_front c.fetch.result (length file - c.args.at) c.min-room.result c.args.self.now.piece c.args.into.now
    c.min-room.ensures c.fetch.ensures.count

pub returns-clause-count : goal.returns-clause-count
returns-clause-count c =
    let file = file_named c.args.self.now.inner.files.items c.args.name.now in
    count_in_front c.fetch.result (length file - c.args.at) c.min-room.result c.args.self.now.piece c.args.into.now
    c.min-room.ensures c.fetch.ensures.count

pub returns-clause-bytes : goal.returns-clause-bytes
returns-clause-bytes c =
    let file = file_named c.args.self.now.inner.files.items c.args.name.now in
    bytes_in_front c.fetch.result (length file - c.args.at) c.min-room.result c.args.into.now c.fetch.new.into
    (drop c.args.at file) c.fetch.auto.into c.fetch.ensures.count c.fetch.ensures.bytes

pub returns-clause-beyond : goal.returns-clause-beyond
returns-clause-beyond c =
    let file = file_named c.args.self.now.inner.files.items c.args.name.now in
    rest_in_front c.fetch.result (length file - c.args.at) c.min-room.result c.args.into.now c.fetch.new.into
    c.fetch.auto.into c.fetch.ensures.count c.fetch.ensures.beyond

pub returns-clause-unread : goal.returns-clause-unread
returns-clause-unread c =
    unread_in_front c.fetch.result c.min-room.result c.args.into.now c.fetch.new.into c.fetch.ensures.unread
