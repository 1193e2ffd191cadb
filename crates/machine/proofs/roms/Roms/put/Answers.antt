use Rattle.std.proofs.Common.{◌≡◌, ◌≤◌, ◌<◌, ◌+◌, ℕ, List, length, ap, ◌∙◌, arith, sym, []}
use Rattle.machine.specs.Roms.{given, put_byte}
use Rattle.machine.proofs.RomBytes.{put_here}
use Rattle.std.proofs.lemmas.List.{get_or_read}
use Rattle.machine.proofs.roms.Roms.put.Goals as goal

pub returns-clause-put : goal.returns-clause-put
returns-clause-put c = λ d at.
    let roms : List (List ℕ) = c.self.inside.all.items in
    let all : length roms ≡ 10 = omega arith in
    let there : c.args.dev < length roms = omega (arith, all, c.requires.device) in
    let slot : c.from.result ≡ c.args.dev = c.from.ensures in
    let rom : given roms c.args.dev ≡ c.index_mut.result.now =
    sym (get_or_read roms c.args.dev c.index_mut.result.now there (rw (← slot) c.index_mut.ensures.value) []) in
    let long : c.args.size ≤ length (given roms c.args.dev) = rw c.self.view_is c.in_ok-grow.ensures.kept in
    let within : c.args.off + length c.args.bytes.now ≤ length (given roms c.args.dev) =
    omega (arith, long, c.requires.within) in
    rw slot
    (put_here roms c.args.dev c.write.new.self there c.args.bytes.now c.args.off within (rw rom c.write.ensures.size)
    (rw rom c.write.ensures.bytes) d at
    ∙ ap (put_byte c.args.dev c.args.off c.args.bytes.now d at) (rw c.self.view_is (c.in_ok-grow.ensures.same d at)))
