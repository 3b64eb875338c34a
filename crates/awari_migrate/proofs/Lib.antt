mod Migrations
