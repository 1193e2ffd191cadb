use Rattle.std.proofs.Common.{rules, ◌≡◌, ℕ, List, drop, take, Some, ap, sym, ◌∙◌}
use Rattle.board_files.proofs.Known.{passed_more, ends_by}
use Rattle.board_files.proofs.file_shelf.FileShelf.read_at.Goals as goal

pub invariant_of-self : goal.invariant_of-self
invariant_of-self g c = record {
  kept = λ file same file_of told.
      let is : c.read_on.new.file ≡ file = cc in
      sym (ap g.F.File.Read.remaining is)
      ∙ passed_more _ (g.F.File.Read.remaining c.read_on.new.file) (file_of c.args.name.now)
      (take c.in_ok-count.count c.read_on.new.into) c.args.at c.in_ok-count.count
      (c.in_ok-file.ensures.stands file_of (ap g.F.Folder.files (sym c.in_ok-file.ensures.folder) ∙ told))
      c.in_ok-count.ensures.bytes.0 (sym c.in_ok-count.ensures.fits.1)
      ∙ ap (λ (n : ℕ). Some (drop n (file_of c.args.name.now))) (sym c.in-Some.ensures.1)
      ∙ ap (λ (name : List ℕ). Some (drop c.in-Some.after (file_of name))) (sym c.in_ok-file.ensures.name);
}

pub returns-in-Some-clause-end : goal.returns-in-Some-clause-end
returns-in-Some-clause-end g c = λ none file_of told.
    ends_by _ (g.F.File.Read.remaining c.read_on.new.file) (file_of c.args.name.now)
    (take c.in_ok-count.count c.read_on.new.into) c.args.at (c.in_ok-file.ensures.stands file_of told)
    c.in_ok-count.ensures.bytes.0 (sym c.in_ok-count.ensures.fits.1 ∙ none)
    (c.in_ok-count.ensures.bytes.1 none (search rules))
