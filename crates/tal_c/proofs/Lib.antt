mod Loan
mod TextLemmas
mod GuestLemmas
