mod PointLemmas
mod SpanLemmas
