use Rattle.make_script.proofs.counts.Marks.of_parts.Goals as goal

pub returns-in-Two : goal.returns-in-Two
returns-in-Two c = rw c.in-Two.is (record {
  marks = c.or.ensures.marks _ _ c.of_part.ensures.marks c.of_part-in-Two.ensures.marks;
})

pub returns-in-Three : goal.returns-in-Three
returns-in-Three c = rw c.in-Three.is (record {
  marks =
      c.or-in-Three-2.ensures.marks _ _
      (c.or-in-Three.ensures.marks _ _ c.of_part-in-Three.ensures.marks c.of_part-in-Three-2.ensures.marks)
      c.of_part-in-Three-3.ensures.marks;
})

pub returns-in-Four : goal.returns-in-Four
returns-in-Four c = rw c.in-Four.is (record {
  marks =
      c.or-in-Four.ensures.marks _ _
      (c.or-low.ensures.marks _ _ c.of_part-in-Four.ensures.marks c.of_part-in-Four-2.ensures.marks)
      (c.or-high.ensures.marks _ _ c.of_part-in-Four-3.ensures.marks c.of_part-in-Four-4.ensures.marks);
})
