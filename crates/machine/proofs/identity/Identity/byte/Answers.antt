use Rattle.std.proofs.Common.{List, length, sym, ap, ◌∙◌, refl, arith}
use Rattle.machine.specs.declared.field.Field.{Field}
use Rattle.machine.specs.Header.{byte_said, identity_byte}
use Rattle.machine.proofs.Walks.{byte_here, byte_later, byte_past}
use Rattle.machine.proofs.identity.Identity.byte.Goals as goal

pub loop-field-init : goal.loop-field-init
loop-field-init c = record { items = c.fields.ensures.fields; rest = refl }

pub returns-then-says : goal.returns-then-says
unfolding identity_byte
returns-then-says c =
    let fields = c.loop-field.invariant in
    let count = ap (λ (items : List Field). length items) fields.items in
    record {
      byte =
          c.byte.ensures.byte
          ∙ sym (byte_here c.fields.result c.loop-field.field-index c.args.off c.args.old _ (omega (arith, count))
          (sym c.says.ensures.says ∙ c.if-says.true))
          ∙ fields.rest
          ∙ ap (λ (items : List Field). byte_said items c.args.off c.args.old) fields.items;
    }

pub loop-field-preserved : goal.loop-field-preserved
loop-field-preserved c =
    let fields = c.loop-field.invariant in
    let count = ap (λ (items : List Field). length items) fields.items in
    record {
      items = fields.items;
      rest =
          byte_later c.fields.result c.loop-field.field-index c.args.off c.args.old _ (omega (arith, count))
          (sym c.says.ensures.says ∙ c.if-says.false)
          ∙ fields.rest;
    }

pub returns : goal.returns
unfolding identity_byte
returns c =
    let fields = c.loop-field.invariant in
    let count = ap (λ (items : List Field). length items) fields.items in
    record {
      byte =
          byte_past c.fields.result c.loop-field.field-index c.args.off c.args.old (omega (arith, count))
          ∙ fields.rest
          ∙ ap (λ (items : List Field). byte_said items c.args.off c.args.old) fields.items;
    }
