use Rattle.std.proofs.Common.{map, string_bytes, refl}
use Rattle.promises.proofs.Totals.{usage_decided, nothing_put, ends_so, comes, possible, puts_made}
use Rattle.promises.proofs.totality.board_with_causes.Goals as goal

pub returns : goal.returns
returns g c =
    let words = map string_bytes c.args.words.now in
    let ended = c.board.result in
    let caused = c.board.ensures.caused in
    record {
      usage = usage_decided words ended c.board.ensures.usage;
      usage_puts = λ before now took takes. nothing_put words ended _ _ before now took takes caused;
      cause = λ command files before now there are told took takes.
          ends_so _ _ _ told refl refl refl refl refl took takes words command ended there are caused;
      comes = λ command files wanted there are told.
          comes words command _ files ended wanted _ _ there are told c.board.ensures.exact;
      possible = λ command there are. possible words command ended there are caused.possible;
      read_faults = caused.no_fault_hidden;
      put_faults = caused.no_put_fault_hidden;
      puts = λ before now before_is now_is. puts_made ended _ _ before now before_is now_is c.board.ensures.puts;
    }
