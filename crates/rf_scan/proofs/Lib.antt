mod HotLemmas
mod RecordLemmas
mod RisingLemmas
mod ScanLemmas
mod TrimLemmas
