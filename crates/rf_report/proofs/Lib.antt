mod CsvLemmas
mod LineLemmas
