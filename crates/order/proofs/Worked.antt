-- The examples, by computing.
use Rattle.std.proofs.Common.{refl}
use Rattle.marks.specs.Sets.{how_many}
use Rattle.order.specs.Orderings.{first_fault}
use Rattle.order.specs.Elimination.{after, pairs, width_of, fill_of, looks_of}
use Rattle.order.specs.Ranking.{best, ranking}
use Rattle.order.specs.Examples.{RankedExamples, CountedExamples, ArrangedExamples}

pub ranked_examples : RankedExamples
unfolding ranking best how_many after
ranked_examples = refl

pub counted_examples : CountedExamples
unfolding how_many after pairs width_of fill_of looks_of
counted_examples = refl

pub arranged_examples : ArrangedExamples
unfolding first_fault
arranged_examples = refl
