mod ReportLemmas
mod OddCountLemmas
mod ReportFacts
mod SumFacts
mod ReasonFacts
