mod EnoughLemmas
mod HalvingLemmas
mod Replies
