mod NumeralLemmas
mod OrderLemmas
